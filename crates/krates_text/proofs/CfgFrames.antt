-- The open forms and their predicates, as they grow.
use Rattle.std.proofs.Common.{◌≡◌, ◌+◌, ◌<◌, List, [], ◌∷◌, ◌++◌, length, refl, sym, ap, ◌∙◌, arith, append-nil}
use Rattle.std.specs.Prelude.{Option, Some, None, MatchOption, IsSome, option_to_list}
use Rattle.std.proofs.lemmas.Bool.{false≢true}
use Rattle.krates_text.specs.declared.cfg.predicate.Predicate.{Predicate}
use Rattle.krates_text.specs.declared.cfg.frame.Frame as declared
use Rattle.krates_text.specs.CfgGrammar.{tree, added, Frame}
use Rattle.krates_text.specs.CfgView.{tree_of, trees_of}
use Rattle.krates_text.specs.CfgFrames.{frame_of, stack_on, stack}

stack_on-push : (outer : List Frame) (frames : List declared.Frame) (f : declared.Frame) → stack_on outer (frames ++ f ∷ []) ≡ frame_of f ∷ stack_on outer frames
stack_on-push outer [] f = refl
stack_on-push outer (g ∷ frames) f = stack_on-push (frame_of g ∷ outer) frames f

pub stack-nil : stack [] ≡ []
unfolding stack
stack-nil = refl

pub stack-push : (frames : List declared.Frame) (f : declared.Frame) → stack (frames ++ f ∷ []) ≡ frame_of f ∷ stack frames
unfolding stack
stack-push frames f = stack_on-push [] frames f

length-stack_on : (outer : List Frame) (frames : List declared.Frame) → length (stack_on outer frames) ≡ length outer + length frames
length-stack_on outer [] = omega arith
length-stack_on outer (f ∷ frames) = omega (arith, length-stack_on (frame_of f ∷ outer) frames)

pub length-stack : (frames : List declared.Frame) → length (stack frames) ≡ length frames
unfolding stack
length-stack frames = omega (arith, length-stack_on [] frames)

pub trees-push : (ps : List Predicate) (p : Predicate) → trees_of (ps ++ p ∷ []) ≡ added (trees_of ps) (tree_of p)
trees-push [] p = refl
trees-push (q ∷ ps) p = ap (tree (tree_of q)) (trees-push ps p)

-- what `pop` removed: the top frame, or nothing
pub popped : (old new : List declared.Frame) (r : Option declared.Frame) → old ≡ new ++ option_to_list r → (0 < length old → IsSome r) → MatchOption r ((stack old ≡ []) × (stack new ≡ [])) (λ f. stack old ≡ frame_of f ∷ stack new)
popped [] new None e some = (stack-nil, ap stack (sym (append-nil new) ∙ sym e) ∙ stack-nil)
popped (f ∷ old) new None e some = absurd (false≢true (some (omega arith)))
popped old new (Some f) e some = ap stack e ∙ stack-push new f
