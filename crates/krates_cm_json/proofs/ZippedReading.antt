-- Fields that are read side by side.
use Rattle.std.proofs.Common.{◌≡◌, inl, inr, Some, None, Result, Ok, Err, refl, subst}
use Rattle.std.specs.Bool.{⊤}
use Rattle.krates_cm.specs.declared.read_error.ReadError.{ReadError}
use Rattle.krates_cm_json.specs.Faults.{fault_of}
use Rattle.krates_cm_json.specs.Reading.{Reading, Gives, read_as, ◌<*>◌, ◌then◌}
use Rattle.krates_cm_json.specs.Zipped.{zip_three, zip_four}

-- what was returned, by a view
abbrev pub seen : {X Y : Type 0} → (X → Y) → Result X ReadError → Result Y ReadError
seen view (Ok x) = Ok (view x)
seen view (Err e) = Err e

-- a function and its argument: both were read, or the first refusal counts
infixl 10 ◌given◌
abbrev pub ◌given◌ : {A B : Type 0} → Result (A → B) ReadError → Result A ReadError → Result B ReadError
Err e given x = Err e
Ok f given Err e = Err e
Ok f given Ok x = Ok (f x)

abbrev pub AreSame : {A : Type 0} → Result A ReadError → Reading A → Type 0
AreSame = Gives (λ x. x)

-- what a field's call returned, and what it ensures
pub record Field {X A : Type 0} (view : X → A) (r : Result X ReadError) (reading : Reading A) : Type 0 where
  pub is : Gives view r reading

pub seen_same : {X A : Type 0} (view : X → A) (r : Result X ReadError) (reading : Reading A) → Gives view r reading → AreSame (seen view r) reading
seen_same view (Ok x) reading is = is
seen_same view (Err e) reading is = is

-- one more field was read
pub given_same : {A B : Type 0} (f : Result (A → B) ReadError) (x : Result A ReadError) (fs : Reading (A → B)) (xs : Reading A) → AreSame f fs → AreSame x xs → AreSame (f given x) (fs <*> xs)
given_same (Ok f) (Ok x) fs xs is too = rw (is, too) refl
given_same (Ok f) (Err e) fs xs is (inl memory) = inl memory
given_same (Ok f) (Err e) fs xs is (inr (none, fault)) = inr (rw (is, none) refl, inr fault)
given_same (Err e) x fs xs (inl memory) too = inl memory
given_same (Err e) x fs xs (inr (none, fault)) too = inr (rw none refl, inl fault)

-- what is read of an object
pub then_same : {A : Type 0} (r : Result A ReadError) (first : Reading ⊤) (second : Reading A) → first.value ≡ Some tt → AreSame r second → AreSame r (first then second)
then_same (Ok x) first second is same = rw is same
then_same (Err e) first second is (inl memory) = inl memory
then_same (Err e) first second is (inr (none, fault)) = inr (rw is none, inr (is, fault))

-- six fields
six_zipped : {A1 A2 A3 A4 A5 A6 X1 X2 X3 X4 X5 X6 R : Type 0} (v1 : X1 → A1) (v2 : X2 → A2) (v3 : X3 → A3) (v4 : X4 → A4) (v5 : X5 → A5) (v6 : X6 → A6) (f : A1 → A2 → A3 → A4 → A5 → A6 → R) (r1 : Result X1 ReadError) (r2 : Result X2 ReadError) (r3 : Result X3 ReadError) (r4 : Result X4 ReadError) (r5 : Result X5 ReadError) (r6 : Result X6 ReadError)
    → (Ok f given seen v1 r1 given seen v2 r2 given seen v3 r3 given seen v4 r4 given seen v5 r5 given seen v6 r6) ≡ seen (λ t. f (v1 t.0.0) (v2 t.0.1) (v3 t.0.2) (v4 t.1) (v5 t.2) (v6 t.3)) (zip_four (zip_three r1 r2 r3) r4 r5 r6)
six_zipped v1 v2 v3 v4 v5 v6 f (Err e) r2 r3 r4 r5 r6 = refl
six_zipped v1 v2 v3 v4 v5 v6 f (Ok x1) (Err e) r3 r4 r5 r6 = refl
six_zipped v1 v2 v3 v4 v5 v6 f (Ok x1) (Ok x2) (Err e) r4 r5 r6 = refl
six_zipped v1 v2 v3 v4 v5 v6 f (Ok x1) (Ok x2) (Ok x3) (Err e) r5 r6 = refl
six_zipped v1 v2 v3 v4 v5 v6 f (Ok x1) (Ok x2) (Ok x3) (Ok x4) (Err e) r6 = refl
six_zipped v1 v2 v3 v4 v5 v6 f (Ok x1) (Ok x2) (Ok x3) (Ok x4) (Ok x5) (Err e) = refl
six_zipped v1 v2 v3 v4 v5 v6 f (Ok x1) (Ok x2) (Ok x3) (Ok x4) (Ok x5) (Ok x6) = refl

module _ {A1 A2 A3 A4 A5 A6 X1 X2 X3 X4 X5 X6 R : Type 0} {v1 : X1 → A1} {v2 : X2 → A2} {v3 : X3 → A3} {v4 : X4 → A4} {v5 : X5 → A5} {v6 : X6 → A6} {r1 : Result X1 ReadError} {r2 : Result X2 ReadError} {r3 : Result X3 ReadError} {r4 : Result X4 ReadError} {r5 : Result X5 ReadError} {r6 : Result X6 ReadError} {s1 : Reading A1} {s2 : Reading A2} {s3 : Reading A3} {s4 : Reading A4} {s5 : Reading A5} {s6 : Reading A6} where
  pub six_read : {g1 : Result (X1 × X2 × X3) ReadError} {whole : Result ((X1 × X2 × X3) × X4 × X5 × X6) ReadError} (f : A1 → A2 → A3 → A4 → A5 → A6 → R)
      → Field v1 r1 s1 → Field v2 r2 s2 → Field v3 r3 s3 → Field v4 r4 s4 → Field v5 r5 s5 → Field v6 r6 s6
      → g1 ≡ zip_three r1 r2 r3 → whole ≡ zip_four g1 r4 r5 r6
      → AreSame (seen (λ t. f (v1 t.0.0) (v2 t.0.1) (v3 t.0.2) (v4 t.1) (v5 t.2) (v6 t.3)) whole) (read_as f <*> s1 <*> s2 <*> s3 <*> s4 <*> s5 <*> s6)
  six_read f h1 h2 h3 h4 h5 h6 is1 all =
      let so1 = given_same (Ok f) (seen v1 r1) (read_as f) s1 refl (seen_same v1 r1 s1 h1.is) in
      let so2 = given_same (Ok f given seen v1 r1) (seen v2 r2) (read_as f <*> s1) s2 so1 (seen_same v2 r2 s2 h2.is) in
      let so3 = given_same (Ok f given seen v1 r1 given seen v2 r2) (seen v3 r3) (read_as f <*> s1 <*> s2) s3 so2 (seen_same v3 r3 s3 h3.is) in
      let so4 = given_same (Ok f given seen v1 r1 given seen v2 r2 given seen v3 r3) (seen v4 r4) (read_as f <*> s1 <*> s2 <*> s3) s4 so3 (seen_same v4 r4 s4 h4.is) in
      let so5 = given_same (Ok f given seen v1 r1 given seen v2 r2 given seen v3 r3 given seen v4 r4) (seen v5 r5) (read_as f <*> s1 <*> s2 <*> s3 <*> s4) s5 so4 (seen_same v5 r5 s5 h5.is) in
      let so6 = given_same (Ok f given seen v1 r1 given seen v2 r2 given seen v3 r3 given seen v4 r4 given seen v5 r5) (seen v6 r6) (read_as f <*> s1 <*> s2 <*> s3 <*> s4 <*> s5) s6 so5 (seen_same v6 r6 s6 h6.is) in
      rw (all, is1) (subst (λ r. AreSame r (read_as f <*> s1 <*> s2 <*> s3 <*> s4 <*> s5 <*> s6)) (six_zipped v1 v2 v3 v4 v5 v6 f r1 r2 r3 r4 r5 r6) so6)

-- nine fields
nine_zipped : {A1 A2 A3 A4 A5 A6 A7 A8 A9 X1 X2 X3 X4 X5 X6 X7 X8 X9 R : Type 0} (v1 : X1 → A1) (v2 : X2 → A2) (v3 : X3 → A3) (v4 : X4 → A4) (v5 : X5 → A5) (v6 : X6 → A6) (v7 : X7 → A7) (v8 : X8 → A8) (v9 : X9 → A9) (f : A1 → A2 → A3 → A4 → A5 → A6 → A7 → A8 → A9 → R) (r1 : Result X1 ReadError) (r2 : Result X2 ReadError) (r3 : Result X3 ReadError) (r4 : Result X4 ReadError) (r5 : Result X5 ReadError) (r6 : Result X6 ReadError) (r7 : Result X7 ReadError) (r8 : Result X8 ReadError) (r9 : Result X9 ReadError)
    → (Ok f given seen v1 r1 given seen v2 r2 given seen v3 r3 given seen v4 r4 given seen v5 r5 given seen v6 r6 given seen v7 r7 given seen v8 r8 given seen v9 r9) ≡ seen (λ t. f (v1 t.0.0) (v2 t.0.1) (v3 t.0.2) (v4 t.1.0) (v5 t.1.1) (v6 t.1.2) (v7 t.2.0) (v8 t.2.1) (v9 t.2.2)) (zip_three (zip_three r1 r2 r3) (zip_three r4 r5 r6) (zip_three r7 r8 r9))
nine_zipped v1 v2 v3 v4 v5 v6 v7 v8 v9 f (Err e) r2 r3 r4 r5 r6 r7 r8 r9 = refl
nine_zipped v1 v2 v3 v4 v5 v6 v7 v8 v9 f (Ok x1) (Err e) r3 r4 r5 r6 r7 r8 r9 = refl
nine_zipped v1 v2 v3 v4 v5 v6 v7 v8 v9 f (Ok x1) (Ok x2) (Err e) r4 r5 r6 r7 r8 r9 = refl
nine_zipped v1 v2 v3 v4 v5 v6 v7 v8 v9 f (Ok x1) (Ok x2) (Ok x3) (Err e) r5 r6 r7 r8 r9 = refl
nine_zipped v1 v2 v3 v4 v5 v6 v7 v8 v9 f (Ok x1) (Ok x2) (Ok x3) (Ok x4) (Err e) r6 r7 r8 r9 = refl
nine_zipped v1 v2 v3 v4 v5 v6 v7 v8 v9 f (Ok x1) (Ok x2) (Ok x3) (Ok x4) (Ok x5) (Err e) r7 r8 r9 = refl
nine_zipped v1 v2 v3 v4 v5 v6 v7 v8 v9 f (Ok x1) (Ok x2) (Ok x3) (Ok x4) (Ok x5) (Ok x6) (Err e) r8 r9 = refl
nine_zipped v1 v2 v3 v4 v5 v6 v7 v8 v9 f (Ok x1) (Ok x2) (Ok x3) (Ok x4) (Ok x5) (Ok x6) (Ok x7) (Err e) r9 = refl
nine_zipped v1 v2 v3 v4 v5 v6 v7 v8 v9 f (Ok x1) (Ok x2) (Ok x3) (Ok x4) (Ok x5) (Ok x6) (Ok x7) (Ok x8) (Err e) = refl
nine_zipped v1 v2 v3 v4 v5 v6 v7 v8 v9 f (Ok x1) (Ok x2) (Ok x3) (Ok x4) (Ok x5) (Ok x6) (Ok x7) (Ok x8) (Ok x9) = refl

module _ {A1 A2 A3 A4 A5 A6 A7 A8 A9 X1 X2 X3 X4 X5 X6 X7 X8 X9 R : Type 0} {v1 : X1 → A1} {v2 : X2 → A2} {v3 : X3 → A3} {v4 : X4 → A4} {v5 : X5 → A5} {v6 : X6 → A6} {v7 : X7 → A7} {v8 : X8 → A8} {v9 : X9 → A9} {r1 : Result X1 ReadError} {r2 : Result X2 ReadError} {r3 : Result X3 ReadError} {r4 : Result X4 ReadError} {r5 : Result X5 ReadError} {r6 : Result X6 ReadError} {r7 : Result X7 ReadError} {r8 : Result X8 ReadError} {r9 : Result X9 ReadError} {s1 : Reading A1} {s2 : Reading A2} {s3 : Reading A3} {s4 : Reading A4} {s5 : Reading A5} {s6 : Reading A6} {s7 : Reading A7} {s8 : Reading A8} {s9 : Reading A9} where
  pub nine_read : {g1 : Result (X1 × X2 × X3) ReadError} {g2 : Result (X4 × X5 × X6) ReadError} {g3 : Result (X7 × X8 × X9) ReadError} {whole : Result ((X1 × X2 × X3) × (X4 × X5 × X6) × (X7 × X8 × X9)) ReadError} (f : A1 → A2 → A3 → A4 → A5 → A6 → A7 → A8 → A9 → R)
      → Field v1 r1 s1 → Field v2 r2 s2 → Field v3 r3 s3 → Field v4 r4 s4 → Field v5 r5 s5 → Field v6 r6 s6 → Field v7 r7 s7 → Field v8 r8 s8 → Field v9 r9 s9
      → g1 ≡ zip_three r1 r2 r3 → g2 ≡ zip_three r4 r5 r6 → g3 ≡ zip_three r7 r8 r9 → whole ≡ zip_three g1 g2 g3
      → AreSame (seen (λ t. f (v1 t.0.0) (v2 t.0.1) (v3 t.0.2) (v4 t.1.0) (v5 t.1.1) (v6 t.1.2) (v7 t.2.0) (v8 t.2.1) (v9 t.2.2)) whole) (read_as f <*> s1 <*> s2 <*> s3 <*> s4 <*> s5 <*> s6 <*> s7 <*> s8 <*> s9)
  nine_read f h1 h2 h3 h4 h5 h6 h7 h8 h9 is1 is2 is3 all =
      let so1 = given_same (Ok f) (seen v1 r1) (read_as f) s1 refl (seen_same v1 r1 s1 h1.is) in
      let so2 = given_same (Ok f given seen v1 r1) (seen v2 r2) (read_as f <*> s1) s2 so1 (seen_same v2 r2 s2 h2.is) in
      let so3 = given_same (Ok f given seen v1 r1 given seen v2 r2) (seen v3 r3) (read_as f <*> s1 <*> s2) s3 so2 (seen_same v3 r3 s3 h3.is) in
      let so4 = given_same (Ok f given seen v1 r1 given seen v2 r2 given seen v3 r3) (seen v4 r4) (read_as f <*> s1 <*> s2 <*> s3) s4 so3 (seen_same v4 r4 s4 h4.is) in
      let so5 = given_same (Ok f given seen v1 r1 given seen v2 r2 given seen v3 r3 given seen v4 r4) (seen v5 r5) (read_as f <*> s1 <*> s2 <*> s3 <*> s4) s5 so4 (seen_same v5 r5 s5 h5.is) in
      let so6 = given_same (Ok f given seen v1 r1 given seen v2 r2 given seen v3 r3 given seen v4 r4 given seen v5 r5) (seen v6 r6) (read_as f <*> s1 <*> s2 <*> s3 <*> s4 <*> s5) s6 so5 (seen_same v6 r6 s6 h6.is) in
      let so7 = given_same (Ok f given seen v1 r1 given seen v2 r2 given seen v3 r3 given seen v4 r4 given seen v5 r5 given seen v6 r6) (seen v7 r7) (read_as f <*> s1 <*> s2 <*> s3 <*> s4 <*> s5 <*> s6) s7 so6 (seen_same v7 r7 s7 h7.is) in
      let so8 = given_same (Ok f given seen v1 r1 given seen v2 r2 given seen v3 r3 given seen v4 r4 given seen v5 r5 given seen v6 r6 given seen v7 r7) (seen v8 r8) (read_as f <*> s1 <*> s2 <*> s3 <*> s4 <*> s5 <*> s6 <*> s7) s8 so7 (seen_same v8 r8 s8 h8.is) in
      let so9 = given_same (Ok f given seen v1 r1 given seen v2 r2 given seen v3 r3 given seen v4 r4 given seen v5 r5 given seen v6 r6 given seen v7 r7 given seen v8 r8) (seen v9 r9) (read_as f <*> s1 <*> s2 <*> s3 <*> s4 <*> s5 <*> s6 <*> s7 <*> s8) s9 so8 (seen_same v9 r9 s9 h9.is) in
      rw (all, is1, is2, is3) (subst (λ r. AreSame r (read_as f <*> s1 <*> s2 <*> s3 <*> s4 <*> s5 <*> s6 <*> s7 <*> s8 <*> s9)) (nine_zipped v1 v2 v3 v4 v5 v6 v7 v8 v9 f r1 r2 r3 r4 r5 r6 r7 r8 r9) so9)

  pub nine_of_object : {g1 : Result (X1 × X2 × X3) ReadError} {g2 : Result (X4 × X5 × X6) ReadError} {g3 : Result (X7 × X8 × X9) ReadError} {whole : Result ((X1 × X2 × X3) × (X4 × X5 × X6) × (X7 × X8 × X9)) ReadError} (f : A1 → A2 → A3 → A4 → A5 → A6 → A7 → A8 → A9 → R) (first : Reading ⊤) → first.value ≡ Some tt
      → Field v1 r1 s1 → Field v2 r2 s2 → Field v3 r3 s3 → Field v4 r4 s4 → Field v5 r5 s5 → Field v6 r6 s6 → Field v7 r7 s7 → Field v8 r8 s8 → Field v9 r9 s9
      → g1 ≡ zip_three r1 r2 r3 → g2 ≡ zip_three r4 r5 r6 → g3 ≡ zip_three r7 r8 r9 → whole ≡ zip_three g1 g2 g3
      → AreSame (seen (λ t. f (v1 t.0.0) (v2 t.0.1) (v3 t.0.2) (v4 t.1.0) (v5 t.1.1) (v6 t.1.2) (v7 t.2.0) (v8 t.2.1) (v9 t.2.2)) whole) (first then (read_as f <*> s1 <*> s2 <*> s3 <*> s4 <*> s5 <*> s6 <*> s7 <*> s8 <*> s9))
  nine_of_object {whole = whole} f first is h1 h2 h3 h4 h5 h6 h7 h8 h9 is1 is2 is3 all = then_same (seen (λ t. f (v1 t.0.0) (v2 t.0.1) (v3 t.0.2) (v4 t.1.0) (v5 t.1.1) (v6 t.1.2) (v7 t.2.0) (v8 t.2.1) (v9 t.2.2)) whole) first (read_as f <*> s1 <*> s2 <*> s3 <*> s4 <*> s5 <*> s6 <*> s7 <*> s8 <*> s9) is (nine_read f h1 h2 h3 h4 h5 h6 h7 h8 h9 is1 is2 is3 all)

-- ten fields
ten_zipped : {A1 A2 A3 A4 A5 A6 A7 A8 A9 A10 X1 X2 X3 X4 X5 X6 X7 X8 X9 X10 R : Type 0} (v1 : X1 → A1) (v2 : X2 → A2) (v3 : X3 → A3) (v4 : X4 → A4) (v5 : X5 → A5) (v6 : X6 → A6) (v7 : X7 → A7) (v8 : X8 → A8) (v9 : X9 → A9) (v10 : X10 → A10) (f : A1 → A2 → A3 → A4 → A5 → A6 → A7 → A8 → A9 → A10 → R) (r1 : Result X1 ReadError) (r2 : Result X2 ReadError) (r3 : Result X3 ReadError) (r4 : Result X4 ReadError) (r5 : Result X5 ReadError) (r6 : Result X6 ReadError) (r7 : Result X7 ReadError) (r8 : Result X8 ReadError) (r9 : Result X9 ReadError) (r10 : Result X10 ReadError)
    → (Ok f given seen v1 r1 given seen v2 r2 given seen v3 r3 given seen v4 r4 given seen v5 r5 given seen v6 r6 given seen v7 r7 given seen v8 r8 given seen v9 r9 given seen v10 r10) ≡ seen (λ t. f (v1 t.0.0) (v2 t.0.1) (v3 t.0.2) (v4 t.0.3) (v5 t.1.0) (v6 t.1.1) (v7 t.1.2) (v8 t.2.0) (v9 t.2.1) (v10 t.2.2)) (zip_three (zip_four r1 r2 r3 r4) (zip_three r5 r6 r7) (zip_three r8 r9 r10))
ten_zipped v1 v2 v3 v4 v5 v6 v7 v8 v9 v10 f (Err e) r2 r3 r4 r5 r6 r7 r8 r9 r10 = refl
ten_zipped v1 v2 v3 v4 v5 v6 v7 v8 v9 v10 f (Ok x1) (Err e) r3 r4 r5 r6 r7 r8 r9 r10 = refl
ten_zipped v1 v2 v3 v4 v5 v6 v7 v8 v9 v10 f (Ok x1) (Ok x2) (Err e) r4 r5 r6 r7 r8 r9 r10 = refl
ten_zipped v1 v2 v3 v4 v5 v6 v7 v8 v9 v10 f (Ok x1) (Ok x2) (Ok x3) (Err e) r5 r6 r7 r8 r9 r10 = refl
ten_zipped v1 v2 v3 v4 v5 v6 v7 v8 v9 v10 f (Ok x1) (Ok x2) (Ok x3) (Ok x4) (Err e) r6 r7 r8 r9 r10 = refl
ten_zipped v1 v2 v3 v4 v5 v6 v7 v8 v9 v10 f (Ok x1) (Ok x2) (Ok x3) (Ok x4) (Ok x5) (Err e) r7 r8 r9 r10 = refl
ten_zipped v1 v2 v3 v4 v5 v6 v7 v8 v9 v10 f (Ok x1) (Ok x2) (Ok x3) (Ok x4) (Ok x5) (Ok x6) (Err e) r8 r9 r10 = refl
ten_zipped v1 v2 v3 v4 v5 v6 v7 v8 v9 v10 f (Ok x1) (Ok x2) (Ok x3) (Ok x4) (Ok x5) (Ok x6) (Ok x7) (Err e) r9 r10 = refl
ten_zipped v1 v2 v3 v4 v5 v6 v7 v8 v9 v10 f (Ok x1) (Ok x2) (Ok x3) (Ok x4) (Ok x5) (Ok x6) (Ok x7) (Ok x8) (Err e) r10 = refl
ten_zipped v1 v2 v3 v4 v5 v6 v7 v8 v9 v10 f (Ok x1) (Ok x2) (Ok x3) (Ok x4) (Ok x5) (Ok x6) (Ok x7) (Ok x8) (Ok x9) (Err e) = refl
ten_zipped v1 v2 v3 v4 v5 v6 v7 v8 v9 v10 f (Ok x1) (Ok x2) (Ok x3) (Ok x4) (Ok x5) (Ok x6) (Ok x7) (Ok x8) (Ok x9) (Ok x10) = refl

module _ {A1 A2 A3 A4 A5 A6 A7 A8 A9 A10 X1 X2 X3 X4 X5 X6 X7 X8 X9 X10 R : Type 0} {v1 : X1 → A1} {v2 : X2 → A2} {v3 : X3 → A3} {v4 : X4 → A4} {v5 : X5 → A5} {v6 : X6 → A6} {v7 : X7 → A7} {v8 : X8 → A8} {v9 : X9 → A9} {v10 : X10 → A10} {r1 : Result X1 ReadError} {r2 : Result X2 ReadError} {r3 : Result X3 ReadError} {r4 : Result X4 ReadError} {r5 : Result X5 ReadError} {r6 : Result X6 ReadError} {r7 : Result X7 ReadError} {r8 : Result X8 ReadError} {r9 : Result X9 ReadError} {r10 : Result X10 ReadError} {s1 : Reading A1} {s2 : Reading A2} {s3 : Reading A3} {s4 : Reading A4} {s5 : Reading A5} {s6 : Reading A6} {s7 : Reading A7} {s8 : Reading A8} {s9 : Reading A9} {s10 : Reading A10} where
  pub ten_read : {g1 : Result (X1 × X2 × X3 × X4) ReadError} {g2 : Result (X5 × X6 × X7) ReadError} {g3 : Result (X8 × X9 × X10) ReadError} {whole : Result ((X1 × X2 × X3 × X4) × (X5 × X6 × X7) × (X8 × X9 × X10)) ReadError} (f : A1 → A2 → A3 → A4 → A5 → A6 → A7 → A8 → A9 → A10 → R)
      → Field v1 r1 s1 → Field v2 r2 s2 → Field v3 r3 s3 → Field v4 r4 s4 → Field v5 r5 s5 → Field v6 r6 s6 → Field v7 r7 s7 → Field v8 r8 s8 → Field v9 r9 s9 → Field v10 r10 s10
      → g1 ≡ zip_four r1 r2 r3 r4 → g2 ≡ zip_three r5 r6 r7 → g3 ≡ zip_three r8 r9 r10 → whole ≡ zip_three g1 g2 g3
      → AreSame (seen (λ t. f (v1 t.0.0) (v2 t.0.1) (v3 t.0.2) (v4 t.0.3) (v5 t.1.0) (v6 t.1.1) (v7 t.1.2) (v8 t.2.0) (v9 t.2.1) (v10 t.2.2)) whole) (read_as f <*> s1 <*> s2 <*> s3 <*> s4 <*> s5 <*> s6 <*> s7 <*> s8 <*> s9 <*> s10)
  ten_read f h1 h2 h3 h4 h5 h6 h7 h8 h9 h10 is1 is2 is3 all =
      let so1 = given_same (Ok f) (seen v1 r1) (read_as f) s1 refl (seen_same v1 r1 s1 h1.is) in
      let so2 = given_same (Ok f given seen v1 r1) (seen v2 r2) (read_as f <*> s1) s2 so1 (seen_same v2 r2 s2 h2.is) in
      let so3 = given_same (Ok f given seen v1 r1 given seen v2 r2) (seen v3 r3) (read_as f <*> s1 <*> s2) s3 so2 (seen_same v3 r3 s3 h3.is) in
      let so4 = given_same (Ok f given seen v1 r1 given seen v2 r2 given seen v3 r3) (seen v4 r4) (read_as f <*> s1 <*> s2 <*> s3) s4 so3 (seen_same v4 r4 s4 h4.is) in
      let so5 = given_same (Ok f given seen v1 r1 given seen v2 r2 given seen v3 r3 given seen v4 r4) (seen v5 r5) (read_as f <*> s1 <*> s2 <*> s3 <*> s4) s5 so4 (seen_same v5 r5 s5 h5.is) in
      let so6 = given_same (Ok f given seen v1 r1 given seen v2 r2 given seen v3 r3 given seen v4 r4 given seen v5 r5) (seen v6 r6) (read_as f <*> s1 <*> s2 <*> s3 <*> s4 <*> s5) s6 so5 (seen_same v6 r6 s6 h6.is) in
      let so7 = given_same (Ok f given seen v1 r1 given seen v2 r2 given seen v3 r3 given seen v4 r4 given seen v5 r5 given seen v6 r6) (seen v7 r7) (read_as f <*> s1 <*> s2 <*> s3 <*> s4 <*> s5 <*> s6) s7 so6 (seen_same v7 r7 s7 h7.is) in
      let so8 = given_same (Ok f given seen v1 r1 given seen v2 r2 given seen v3 r3 given seen v4 r4 given seen v5 r5 given seen v6 r6 given seen v7 r7) (seen v8 r8) (read_as f <*> s1 <*> s2 <*> s3 <*> s4 <*> s5 <*> s6 <*> s7) s8 so7 (seen_same v8 r8 s8 h8.is) in
      let so9 = given_same (Ok f given seen v1 r1 given seen v2 r2 given seen v3 r3 given seen v4 r4 given seen v5 r5 given seen v6 r6 given seen v7 r7 given seen v8 r8) (seen v9 r9) (read_as f <*> s1 <*> s2 <*> s3 <*> s4 <*> s5 <*> s6 <*> s7 <*> s8) s9 so8 (seen_same v9 r9 s9 h9.is) in
      let so10 = given_same (Ok f given seen v1 r1 given seen v2 r2 given seen v3 r3 given seen v4 r4 given seen v5 r5 given seen v6 r6 given seen v7 r7 given seen v8 r8 given seen v9 r9) (seen v10 r10) (read_as f <*> s1 <*> s2 <*> s3 <*> s4 <*> s5 <*> s6 <*> s7 <*> s8 <*> s9) s10 so9 (seen_same v10 r10 s10 h10.is) in
      rw (all, is1, is2, is3) (subst (λ r. AreSame r (read_as f <*> s1 <*> s2 <*> s3 <*> s4 <*> s5 <*> s6 <*> s7 <*> s8 <*> s9 <*> s10)) (ten_zipped v1 v2 v3 v4 v5 v6 v7 v8 v9 v10 f r1 r2 r3 r4 r5 r6 r7 r8 r9 r10) so10)

  pub ten_of_object : {g1 : Result (X1 × X2 × X3 × X4) ReadError} {g2 : Result (X5 × X6 × X7) ReadError} {g3 : Result (X8 × X9 × X10) ReadError} {whole : Result ((X1 × X2 × X3 × X4) × (X5 × X6 × X7) × (X8 × X9 × X10)) ReadError} (f : A1 → A2 → A3 → A4 → A5 → A6 → A7 → A8 → A9 → A10 → R) (first : Reading ⊤) → first.value ≡ Some tt
      → Field v1 r1 s1 → Field v2 r2 s2 → Field v3 r3 s3 → Field v4 r4 s4 → Field v5 r5 s5 → Field v6 r6 s6 → Field v7 r7 s7 → Field v8 r8 s8 → Field v9 r9 s9 → Field v10 r10 s10
      → g1 ≡ zip_four r1 r2 r3 r4 → g2 ≡ zip_three r5 r6 r7 → g3 ≡ zip_three r8 r9 r10 → whole ≡ zip_three g1 g2 g3
      → AreSame (seen (λ t. f (v1 t.0.0) (v2 t.0.1) (v3 t.0.2) (v4 t.0.3) (v5 t.1.0) (v6 t.1.1) (v7 t.1.2) (v8 t.2.0) (v9 t.2.1) (v10 t.2.2)) whole) (first then (read_as f <*> s1 <*> s2 <*> s3 <*> s4 <*> s5 <*> s6 <*> s7 <*> s8 <*> s9 <*> s10))
  ten_of_object {whole = whole} f first is h1 h2 h3 h4 h5 h6 h7 h8 h9 h10 is1 is2 is3 all = then_same (seen (λ t. f (v1 t.0.0) (v2 t.0.1) (v3 t.0.2) (v4 t.0.3) (v5 t.1.0) (v6 t.1.1) (v7 t.1.2) (v8 t.2.0) (v9 t.2.1) (v10 t.2.2)) whole) first (read_as f <*> s1 <*> s2 <*> s3 <*> s4 <*> s5 <*> s6 <*> s7 <*> s8 <*> s9 <*> s10) is (ten_read f h1 h2 h3 h4 h5 h6 h7 h8 h9 h10 is1 is2 is3 all)

-- eleven fields
eleven_zipped : {A1 A2 A3 A4 A5 A6 A7 A8 A9 A10 A11 X1 X2 X3 X4 X5 X6 X7 X8 X9 X10 X11 R : Type 0} (v1 : X1 → A1) (v2 : X2 → A2) (v3 : X3 → A3) (v4 : X4 → A4) (v5 : X5 → A5) (v6 : X6 → A6) (v7 : X7 → A7) (v8 : X8 → A8) (v9 : X9 → A9) (v10 : X10 → A10) (v11 : X11 → A11) (f : A1 → A2 → A3 → A4 → A5 → A6 → A7 → A8 → A9 → A10 → A11 → R) (r1 : Result X1 ReadError) (r2 : Result X2 ReadError) (r3 : Result X3 ReadError) (r4 : Result X4 ReadError) (r5 : Result X5 ReadError) (r6 : Result X6 ReadError) (r7 : Result X7 ReadError) (r8 : Result X8 ReadError) (r9 : Result X9 ReadError) (r10 : Result X10 ReadError) (r11 : Result X11 ReadError)
    → (Ok f given seen v1 r1 given seen v2 r2 given seen v3 r3 given seen v4 r4 given seen v5 r5 given seen v6 r6 given seen v7 r7 given seen v8 r8 given seen v9 r9 given seen v10 r10 given seen v11 r11) ≡ seen (λ t. f (v1 t.0.0) (v2 t.0.1) (v3 t.0.2) (v4 t.0.3) (v5 t.1.0) (v6 t.1.1) (v7 t.1.2) (v8 t.1.3) (v9 t.2.0) (v10 t.2.1) (v11 t.2.2)) (zip_three (zip_four r1 r2 r3 r4) (zip_four r5 r6 r7 r8) (zip_three r9 r10 r11))
eleven_zipped v1 v2 v3 v4 v5 v6 v7 v8 v9 v10 v11 f (Err e) r2 r3 r4 r5 r6 r7 r8 r9 r10 r11 = refl
eleven_zipped v1 v2 v3 v4 v5 v6 v7 v8 v9 v10 v11 f (Ok x1) (Err e) r3 r4 r5 r6 r7 r8 r9 r10 r11 = refl
eleven_zipped v1 v2 v3 v4 v5 v6 v7 v8 v9 v10 v11 f (Ok x1) (Ok x2) (Err e) r4 r5 r6 r7 r8 r9 r10 r11 = refl
eleven_zipped v1 v2 v3 v4 v5 v6 v7 v8 v9 v10 v11 f (Ok x1) (Ok x2) (Ok x3) (Err e) r5 r6 r7 r8 r9 r10 r11 = refl
eleven_zipped v1 v2 v3 v4 v5 v6 v7 v8 v9 v10 v11 f (Ok x1) (Ok x2) (Ok x3) (Ok x4) (Err e) r6 r7 r8 r9 r10 r11 = refl
eleven_zipped v1 v2 v3 v4 v5 v6 v7 v8 v9 v10 v11 f (Ok x1) (Ok x2) (Ok x3) (Ok x4) (Ok x5) (Err e) r7 r8 r9 r10 r11 = refl
eleven_zipped v1 v2 v3 v4 v5 v6 v7 v8 v9 v10 v11 f (Ok x1) (Ok x2) (Ok x3) (Ok x4) (Ok x5) (Ok x6) (Err e) r8 r9 r10 r11 = refl
eleven_zipped v1 v2 v3 v4 v5 v6 v7 v8 v9 v10 v11 f (Ok x1) (Ok x2) (Ok x3) (Ok x4) (Ok x5) (Ok x6) (Ok x7) (Err e) r9 r10 r11 = refl
eleven_zipped v1 v2 v3 v4 v5 v6 v7 v8 v9 v10 v11 f (Ok x1) (Ok x2) (Ok x3) (Ok x4) (Ok x5) (Ok x6) (Ok x7) (Ok x8) (Err e) r10 r11 = refl
eleven_zipped v1 v2 v3 v4 v5 v6 v7 v8 v9 v10 v11 f (Ok x1) (Ok x2) (Ok x3) (Ok x4) (Ok x5) (Ok x6) (Ok x7) (Ok x8) (Ok x9) (Err e) r11 = refl
eleven_zipped v1 v2 v3 v4 v5 v6 v7 v8 v9 v10 v11 f (Ok x1) (Ok x2) (Ok x3) (Ok x4) (Ok x5) (Ok x6) (Ok x7) (Ok x8) (Ok x9) (Ok x10) (Err e) = refl
eleven_zipped v1 v2 v3 v4 v5 v6 v7 v8 v9 v10 v11 f (Ok x1) (Ok x2) (Ok x3) (Ok x4) (Ok x5) (Ok x6) (Ok x7) (Ok x8) (Ok x9) (Ok x10) (Ok x11) = refl

module _ {A1 A2 A3 A4 A5 A6 A7 A8 A9 A10 A11 X1 X2 X3 X4 X5 X6 X7 X8 X9 X10 X11 R : Type 0} {v1 : X1 → A1} {v2 : X2 → A2} {v3 : X3 → A3} {v4 : X4 → A4} {v5 : X5 → A5} {v6 : X6 → A6} {v7 : X7 → A7} {v8 : X8 → A8} {v9 : X9 → A9} {v10 : X10 → A10} {v11 : X11 → A11} {r1 : Result X1 ReadError} {r2 : Result X2 ReadError} {r3 : Result X3 ReadError} {r4 : Result X4 ReadError} {r5 : Result X5 ReadError} {r6 : Result X6 ReadError} {r7 : Result X7 ReadError} {r8 : Result X8 ReadError} {r9 : Result X9 ReadError} {r10 : Result X10 ReadError} {r11 : Result X11 ReadError} {s1 : Reading A1} {s2 : Reading A2} {s3 : Reading A3} {s4 : Reading A4} {s5 : Reading A5} {s6 : Reading A6} {s7 : Reading A7} {s8 : Reading A8} {s9 : Reading A9} {s10 : Reading A10} {s11 : Reading A11} where
  pub eleven_read : {g1 : Result (X1 × X2 × X3 × X4) ReadError} {g2 : Result (X5 × X6 × X7 × X8) ReadError} {g3 : Result (X9 × X10 × X11) ReadError} {whole : Result ((X1 × X2 × X3 × X4) × (X5 × X6 × X7 × X8) × (X9 × X10 × X11)) ReadError} (f : A1 → A2 → A3 → A4 → A5 → A6 → A7 → A8 → A9 → A10 → A11 → R)
      → Field v1 r1 s1 → Field v2 r2 s2 → Field v3 r3 s3 → Field v4 r4 s4 → Field v5 r5 s5 → Field v6 r6 s6 → Field v7 r7 s7 → Field v8 r8 s8 → Field v9 r9 s9 → Field v10 r10 s10 → Field v11 r11 s11
      → g1 ≡ zip_four r1 r2 r3 r4 → g2 ≡ zip_four r5 r6 r7 r8 → g3 ≡ zip_three r9 r10 r11 → whole ≡ zip_three g1 g2 g3
      → AreSame (seen (λ t. f (v1 t.0.0) (v2 t.0.1) (v3 t.0.2) (v4 t.0.3) (v5 t.1.0) (v6 t.1.1) (v7 t.1.2) (v8 t.1.3) (v9 t.2.0) (v10 t.2.1) (v11 t.2.2)) whole) (read_as f <*> s1 <*> s2 <*> s3 <*> s4 <*> s5 <*> s6 <*> s7 <*> s8 <*> s9 <*> s10 <*> s11)
  eleven_read f h1 h2 h3 h4 h5 h6 h7 h8 h9 h10 h11 is1 is2 is3 all =
      let so1 = given_same (Ok f) (seen v1 r1) (read_as f) s1 refl (seen_same v1 r1 s1 h1.is) in
      let so2 = given_same (Ok f given seen v1 r1) (seen v2 r2) (read_as f <*> s1) s2 so1 (seen_same v2 r2 s2 h2.is) in
      let so3 = given_same (Ok f given seen v1 r1 given seen v2 r2) (seen v3 r3) (read_as f <*> s1 <*> s2) s3 so2 (seen_same v3 r3 s3 h3.is) in
      let so4 = given_same (Ok f given seen v1 r1 given seen v2 r2 given seen v3 r3) (seen v4 r4) (read_as f <*> s1 <*> s2 <*> s3) s4 so3 (seen_same v4 r4 s4 h4.is) in
      let so5 = given_same (Ok f given seen v1 r1 given seen v2 r2 given seen v3 r3 given seen v4 r4) (seen v5 r5) (read_as f <*> s1 <*> s2 <*> s3 <*> s4) s5 so4 (seen_same v5 r5 s5 h5.is) in
      let so6 = given_same (Ok f given seen v1 r1 given seen v2 r2 given seen v3 r3 given seen v4 r4 given seen v5 r5) (seen v6 r6) (read_as f <*> s1 <*> s2 <*> s3 <*> s4 <*> s5) s6 so5 (seen_same v6 r6 s6 h6.is) in
      let so7 = given_same (Ok f given seen v1 r1 given seen v2 r2 given seen v3 r3 given seen v4 r4 given seen v5 r5 given seen v6 r6) (seen v7 r7) (read_as f <*> s1 <*> s2 <*> s3 <*> s4 <*> s5 <*> s6) s7 so6 (seen_same v7 r7 s7 h7.is) in
      let so8 = given_same (Ok f given seen v1 r1 given seen v2 r2 given seen v3 r3 given seen v4 r4 given seen v5 r5 given seen v6 r6 given seen v7 r7) (seen v8 r8) (read_as f <*> s1 <*> s2 <*> s3 <*> s4 <*> s5 <*> s6 <*> s7) s8 so7 (seen_same v8 r8 s8 h8.is) in
      let so9 = given_same (Ok f given seen v1 r1 given seen v2 r2 given seen v3 r3 given seen v4 r4 given seen v5 r5 given seen v6 r6 given seen v7 r7 given seen v8 r8) (seen v9 r9) (read_as f <*> s1 <*> s2 <*> s3 <*> s4 <*> s5 <*> s6 <*> s7 <*> s8) s9 so8 (seen_same v9 r9 s9 h9.is) in
      let so10 = given_same (Ok f given seen v1 r1 given seen v2 r2 given seen v3 r3 given seen v4 r4 given seen v5 r5 given seen v6 r6 given seen v7 r7 given seen v8 r8 given seen v9 r9) (seen v10 r10) (read_as f <*> s1 <*> s2 <*> s3 <*> s4 <*> s5 <*> s6 <*> s7 <*> s8 <*> s9) s10 so9 (seen_same v10 r10 s10 h10.is) in
      let so11 = given_same (Ok f given seen v1 r1 given seen v2 r2 given seen v3 r3 given seen v4 r4 given seen v5 r5 given seen v6 r6 given seen v7 r7 given seen v8 r8 given seen v9 r9 given seen v10 r10) (seen v11 r11) (read_as f <*> s1 <*> s2 <*> s3 <*> s4 <*> s5 <*> s6 <*> s7 <*> s8 <*> s9 <*> s10) s11 so10 (seen_same v11 r11 s11 h11.is) in
      rw (all, is1, is2, is3) (subst (λ r. AreSame r (read_as f <*> s1 <*> s2 <*> s3 <*> s4 <*> s5 <*> s6 <*> s7 <*> s8 <*> s9 <*> s10 <*> s11)) (eleven_zipped v1 v2 v3 v4 v5 v6 v7 v8 v9 v10 v11 f r1 r2 r3 r4 r5 r6 r7 r8 r9 r10 r11) so11)

  pub eleven_of_object : {g1 : Result (X1 × X2 × X3 × X4) ReadError} {g2 : Result (X5 × X6 × X7 × X8) ReadError} {g3 : Result (X9 × X10 × X11) ReadError} {whole : Result ((X1 × X2 × X3 × X4) × (X5 × X6 × X7 × X8) × (X9 × X10 × X11)) ReadError} (f : A1 → A2 → A3 → A4 → A5 → A6 → A7 → A8 → A9 → A10 → A11 → R) (first : Reading ⊤) → first.value ≡ Some tt
      → Field v1 r1 s1 → Field v2 r2 s2 → Field v3 r3 s3 → Field v4 r4 s4 → Field v5 r5 s5 → Field v6 r6 s6 → Field v7 r7 s7 → Field v8 r8 s8 → Field v9 r9 s9 → Field v10 r10 s10 → Field v11 r11 s11
      → g1 ≡ zip_four r1 r2 r3 r4 → g2 ≡ zip_four r5 r6 r7 r8 → g3 ≡ zip_three r9 r10 r11 → whole ≡ zip_three g1 g2 g3
      → AreSame (seen (λ t. f (v1 t.0.0) (v2 t.0.1) (v3 t.0.2) (v4 t.0.3) (v5 t.1.0) (v6 t.1.1) (v7 t.1.2) (v8 t.1.3) (v9 t.2.0) (v10 t.2.1) (v11 t.2.2)) whole) (first then (read_as f <*> s1 <*> s2 <*> s3 <*> s4 <*> s5 <*> s6 <*> s7 <*> s8 <*> s9 <*> s10 <*> s11))
  eleven_of_object {whole = whole} f first is h1 h2 h3 h4 h5 h6 h7 h8 h9 h10 h11 is1 is2 is3 all = then_same (seen (λ t. f (v1 t.0.0) (v2 t.0.1) (v3 t.0.2) (v4 t.0.3) (v5 t.1.0) (v6 t.1.1) (v7 t.1.2) (v8 t.1.3) (v9 t.2.0) (v10 t.2.1) (v11 t.2.2)) whole) first (read_as f <*> s1 <*> s2 <*> s3 <*> s4 <*> s5 <*> s6 <*> s7 <*> s8 <*> s9 <*> s10 <*> s11) is (eleven_read f h1 h2 h3 h4 h5 h6 h7 h8 h9 h10 h11 is1 is2 is3 all)
