-- What the readers' proofs share. Assumes nothing.
--     gap            the test of a gap, as one over the bytes of a slice
--     eight, four    the number that the library reads from eight bytes or four
--     first_digest   a digest is read from its own 32 bytes
--     deleted        the last kind's telling
use Rattle.std.specs.Prelude.{ℕ, zero, suc, ◌+◌, ◌-◌, ◌≤◌, ◌<◌, ◌≡◌, ◌↔◌, refl, Bool, true, false, IsTrue, List, [], ◌∷◌, eqb, length, get_or, take, drop}
use Rattle.std.specs.List.{All}
use Rattle.std.specs.Int.{from_be_bytes, w32, w64}
use Rattle.std.proofs.Common.{arith, sym, subst, drop-cons, eqb-true, eq-eqb}
use Rattle.std.proofs.Math.Bool.{and-eq-true_iff}
use Rattle.std.proofs.lemmas.List.{get_or-take}
use Rattle.digest.specs.Digest.{word, word_at, from_bytes}
use lib.ListN.{get_or-eq_default}
use Rattle.record.specs.Bytes.{zeros, digest_at}
use Rattle.record.specs.Record.{event_kind, tellings, deletion}

-- no byte but zero
abbrev AllZero : List ℕ → Type 0
AllZero s = All (λ (byte : ℕ). byte ≡ 0) s

zero_cons : (x : ℕ) (xs : List ℕ) → x ≡ 0 → AllZero xs → AllZero (x ∷ xs)
zero_cons x xs e a zero d p = e
zero_cons x xs e a (suc k) d p = a k d (omega arith)

zeros_to : (s : List ℕ) (i n : ℕ) → i + n ≤ length s → zeros s i n ≡ true → AllZero (take n (drop i s))
unfolding zeros
zeros_to s i zero h e = λ k d p. absurd (omega arith)
zeros_to s i (suc n) h e =
    let p = (and-eq-true_iff (eqb (get_or s i 0) 0) (zeros s (suc i) n)).0 e in
    rw (drop-cons s i 0 (omega arith)) (zero_cons (get_or s i 0) _ (eqb-true _ _ p.0) (zeros_to s (suc i) n (omega arith) p.1))

zeros_from : (s : List ℕ) (i n : ℕ) → i + n ≤ length s → AllZero (take n (drop i s)) → zeros s i n ≡ true
unfolding zeros
zeros_from s i zero h a = refl
zeros_from s i (suc n) h a =
    let b : AllZero (get_or s i 0 ∷ take n (drop (suc i) s)) = subst (λ (l : List ℕ). AllZero (take (suc n) l)) (drop-cons s i 0 (omega arith)) a in
    let tail : AllZero (take n (drop (suc i) s)) = λ k d p. b (suc k) d (omega arith) in
    (and-eq-true_iff (eqb (get_or s i 0) 0) (zeros s (suc i) n)).1 (eq-eqb _ _ (b 0 0 (omega arith)), zeros_from s (suc i) n (omega arith) tail)

together : (a b : Bool) → (a ≡ true → b ≡ true) → (b ≡ true → a ≡ true) → a ≡ b
together true b p q = sym (p refl)
together false false p q = refl
together false true p q = q refl

pub gap : (s : List ℕ) (i j : ℕ) (r : Bool) → i ≤ j → j ≤ length s → (IsTrue r ↔ AllZero (take (j - i) (drop i s))) → r ≡ zeros s i (j - i)
gap s i j r p q e =
    let h : i + (j - i) ≤ length s = omega arith in
    together r (zeros s i (j - i)) (λ t. zeros_from s i (j - i) h (e.0 t)) (λ z. e.1 (zeros_to s i (j - i) h z))

pub eight : (b : List ℕ) → length b ≡ 8 → from_be_bytes w64 b ≡ word b
unfolding word
eight (a ∷ b ∷ c ∷ d ∷ e ∷ f ∷ g ∷ h ∷ []) l = omega arith
eight _ l = absurd (omega arith)

pub four : (b : List ℕ) → length b ≡ 4 → from_be_bytes w32 b ≡ word b
unfolding word
four (a ∷ b ∷ c ∷ d ∷ []) l = omega arith
four _ l = absurd (omega arith)

word-first : (s : List ℕ) (k : ℕ) → k + 8 ≤ 32 → word_at (take 32 s) k ≡ word_at s k
word-first s k h =
    let g : (j : ℕ) → j < 32 → get_or (take 32 s) j 0 ≡ get_or s j 0 = λ j p. get_or-take 32 s j 0 p in
    rw (g k (omega arith), g (k + 1) (omega arith), g (k + 2) (omega arith), g (k + 3) (omega arith), g (k + 4) (omega arith), g (k + 5) (omega arith), g (k + 6) (omega arith), g (k + 7) (omega arith)) refl

pub first_digest : (s : List ℕ) (i : ℕ) → from_bytes (take 32 (drop i s)) ≡ digest_at s i
unfolding digest_at from_bytes
first_digest s i =
    let l = drop i s in
    let p = word-first l 0 (omega arith) in
    let q = word-first l 8 (omega arith) in
    let r = word-first l 16 (omega arith) in
    let t = word-first l 24 (omega arith) in
    λ j. record { w0 = p j; w1 = q j; w2 = r j; w3 = t j }

pub deleted : (k : ℕ) (s : List ℕ) → 6 ≤ k → event_kind k s ≡ deletion s
unfolding event_kind
deleted k s h = get_or-eq_default (tellings s) (deletion s) (omega arith)
