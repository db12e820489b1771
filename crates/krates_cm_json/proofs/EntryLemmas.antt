-- Members that are put one after another.
use Rattle.std.proofs.Common.{◌≡◌, ℕ, List, [], ◌∷◌, Bor, Ordering, Less, Equal, Greater, refl, ◌∙◌}
use Rattle.std.specs.BTreeMap.{insert_entry}
use Rattle.std.specs.Ordering.{match_ordering}
use Rattle.serde_json.specs.Data.{Data, put}
use Rattle.krates_cm_json.specs.Entries.{entries_data, name_cmp}

module _ {A : Type 0} (meaning : A → Data) where
  split : (o : Ordering) (a b c : List (Bor (List ℕ) × A)) → entries_data meaning (match_ordering o a b c) ≡ match_ordering o (entries_data meaning a) (entries_data meaning b) (entries_data meaning c)
  split Less a b c = refl
  split Equal a b c = refl
  split Greater a b c = refl

  -- an entry that goes in is a member that is put
  pub entries_data-insert_entry : (es : List (Bor (List ℕ) × A)) (k : Bor (List ℕ)) (v : A) → entries_data meaning (insert_entry name_cmp es k v) ≡ put k.now (meaning v) (entries_data meaning es)
  entries_data-insert_entry [] k v = refl
  entries_data-insert_entry (e ∷ es) k v = split (name_cmp k e.0) _ _ _ ∙ rw (entries_data-insert_entry es k v)
