-- A scan of the numbers of rows is one of the rows themselves: the first one that passes, and how many do. Assumes nothing.
use Prim.Native.Nat.{ℕ, suc, ◌+◌, ◌-◌, ◌<◌}
use native.Mathlib.Omega.{arith}
use Rattle.std.specs.Prelude.{◌≡◌, refl, Bool, false, cond, List, [], ◌∷◌, length, filter, Option, Some, get_or}
use Rattle.std.proofs.Common.{ap, ap₂, ◌∙◌, sym}
use Rattle.std.specs.List.{position, position_from, count_by}
use Rattle.std.proofs.lemmas.Iterator.Adapters.{position_from-zero}
use Rattle.std.proofs.lemmas.List.Sums.{length-filter, sum_by-cons}
use Rattle.store.specs.Scan.{first_at, count_at}
use Rattle.store.specs.Chain.{find_from}
use Rattle.store.specs.Laws.{find-on}

module _ {A : Type 0} (p : A → Bool) (d : A) (f : ℕ → Bool) where
  abbrev Reads : List A → ℕ → Type 0
  Reads xs k = (i : ℕ) → f (k + i) ≡ p (get_or xs i d)

  here : (x : A) (xs : List A) (k : ℕ) → Reads (x ∷ xs) k → f k ≡ p x
  here x xs k h = let e : k ≡ k + 0 = omega arith in ap f e ∙ h 0

  after : (x : A) (xs : List A) (k : ℕ) → Reads (x ∷ xs) k → Reads xs (k + 1)
  after x xs k h = λ i. let e : k + 1 + i ≡ k + suc i = omega arith in ap f e ∙ h (suc i)

  first : (xs : List A) → ((i : ℕ) → f i ≡ p (get_or xs i d)) → Reads xs 0
  first xs h = λ i. let e : 0 + i ≡ i = omega arith in ap f e ∙ h i

  first-from : (xs : List A) (k : ℕ) → Reads xs k → position_from p k xs ≡ first_at f k (length xs)
  unfolding first_at
  first-from [] k h = refl
  first-from (x ∷ xs) k h = ap₂ (λ (b : Bool) (o : Option ℕ). cond b (Some k) o) (sym (here x xs k h)) (first-from xs (k + 1) (after x xs k h))

  pub first_row : (xs : List A) (n : ℕ) → length xs ≡ n → ((i : ℕ) → f i ≡ p (get_or xs i d)) → position p xs ≡ first_at f 0 n
  first_row xs n e h = position_from-zero p xs ∙ first-from xs 0 (first xs h) ∙ ap (first_at f 0) e

  count-from : (xs : List A) (k : ℕ) → Reads xs k → count_by p xs ≡ count_at f k (length xs)
  unfolding count_at
  count-from [] k h = refl
  count-from (x ∷ xs) k h =
      sum_by-cons (λ (x : A). cond (p x) 1 0) x xs
      ∙ ap₂ (λ (b : Bool) (n : ℕ). cond b 1 0 + n) (sym (here x xs k h)) (count-from xs (k + 1) (after x xs k h))

  pub count-rows : (xs : List A) (n : ℕ) → length xs ≡ n → ((i : ℕ) → f i ≡ p (get_or xs i d)) → length (filter p xs) ≡ count_at f 0 n
  count-rows xs n e h = length-filter p xs ∙ count-from xs 0 (first xs h) ∙ ap (count_at f 0) e

-- one row further along a chain, after j of at most n rows
pub find-next : (nx : ℕ → Option ℕ) (f : ℕ → Bool) (n j : ℕ) (l l' x : Option ℕ) (i : ℕ) → find_from nx f (n - j) l ≡ x → j < n → l ≡ Some i
    → f i ≡ false → l' ≡ nx i → find_from nx f (n - (j + 1)) l' ≡ x
find-next nx f n j l l' x i q h e t g =
    let w : n - (j + 1) ≡ n - j - 1 = omega arith in
    ap₂ (find_from nx f) w g ∙ find-on nx f (n - j) l x i q (omega arith) e t
