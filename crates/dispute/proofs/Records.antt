-- A run of records, one record more: the store and the numbers as the loops have them. Assumes nothing.
use Prim.Native.Nat.{ℕ, zero, suc, ◌+◌, ◌<◌}
use native.Mathlib.Numerals.{add-one}
use native.Mathlib.Omega.{arith}
use mathlib.Core.Path.{◌≡◌, refl, ap, sym, ◌∙◌}
use mathlib.Core.List.{List, ◌++◌}
use lib.ListN.{length, drop, set, get_or, length-append, length-set}
use lib.Seq.{set_at, drop-cons, append_snoc}
use Rattle.store.specs.declared.Store.{Store}
use Rattle.dispute.specs.Run.{answer_number, record_at, on_record, store_after, numbers_after}
use Rattle.dispute.specs.Steps.{After}

length_numbers : (i : ℕ) (s : Store) (b : List ℕ) → length (numbers_after i s b) ≡ i
unfolding numbers_after
length_numbers zero s b = refl
length_numbers (suc i) s b = rw (length-append, length_numbers i s b) (omega arith)

-- before the first record
pub after_none : (s : Store) (b ns : List ℕ) → After s b ns 0 s ns
unfolding store_after numbers_after
after_none s b ns = record { held-is = refl; out-is = refl; as_long = refl }

-- a record more: its number is put into the buffer, and the store is that after it
module _ (s : Store) (b ns : List ℕ) (i : ℕ) (h : Store) (out : List ℕ) (a : After s b ns i h out) (n : ℕ) (o : Store)
    (n-is : n ≡ answer_number (on_record h (record_at i b)).answer) (o-is : o ≡ (on_record h (record_at i b)).store) where
  store-more : o ≡ store_after (i + 1) s b
  unfolding store_after
  store-more = rw add-one (o-is ∙ ap (λ (y : Store). (on_record y (record_at i b)).store) a.held-is)

  numbers_more : i < length ns → set (numbers_after i s b ++ drop i ns) i n ≡ numbers_after (i + 1) s b ++ drop (i + 1) ns
  unfolding numbers_after
  numbers_more l =
      let q : n ≡ answer_number (on_record (store_after i s b) (record_at i b)).answer
      = n-is ∙ ap (λ (y : Store). answer_number (on_record y (record_at i b)).answer) a.held-is in
      rw (q, add-one, drop-cons ns i 0, set_at (numbers_after i s b) (get_or ns i 0) (drop (suc i) ns) _ i (length_numbers i s b))
      (sym (append_snoc (numbers_after i s b) _ (drop (suc i) ns)))

  pub after_more : i < length out → After s b ns (i + 1) o (set out i n)
  after_more l = record {
    held-is = store-more;
    out-is = (λ k. set (a.out-is k) i n) ∙ numbers_more (omega (arith, a.as_long));
    as_long = length-set out i n ∙ a.as_long;
  }
