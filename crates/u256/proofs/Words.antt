-- Four digits with what each carries on. One law, `chain`, serves the sum, the difference (read the other way, with borrows) and the shift; the base is a
-- variable, so that no number is large. Assumes nothing.
use Rattle.std.proofs.Common.{◌≡◌, ℕ, ◌+◌, ◌*◌, ◌%◌, ◌^◌, ◌<◌, sym, ap, ◌∙◌, mod-eq_of_lt, arith}
use native.Mathlib.Nat.{add-mul-mod_self_left}
use Rattle.u256.specs.declared.U256.{U256}
use Rattle.u256.specs.Value.{digits, value_of, limit}

up : (w r t x y R T u : ℕ) → r + x * w ≡ t + y → R + u ≡ T + x → (r + w * R) + w * u ≡ (t + w * T) + y
up w r t x y R T u p q = omega (arith, p, ap (λ (n : ℕ). w * n) q)

chain : (w r₀ r₁ r₂ r₃ t₀ t₁ t₂ t₃ c₀ c₁ c₂ c₃ c : ℕ) → r₀ + c₀ * w ≡ t₀ + c → r₁ + c₁ * w ≡ t₁ + c₀ → r₂ + c₂ * w ≡ t₂ + c₁ → r₃ + c₃ * w ≡ t₃ + c₂ → digits w r₀ r₁ r₂ r₃ + w * (w * (w * (w * c₃))) ≡ digits w t₀ t₁ t₂ t₃ + c
chain w r₀ r₁ r₂ r₃ t₀ t₁ t₂ t₃ c₀ c₁ c₂ c₃ c p₀ p₁ p₂ p₃ = up w _ _ _ _ _ _ _ p₀ (up w _ _ _ _ _ _ _ p₁ (up w _ _ _ _ _ _ _ p₂ (omega (arith, p₃))))

added : (w a₀ a₁ a₂ a₃ b₀ b₁ b₂ b₃ R c : ℕ) → R + w * (w * (w * (w * c))) ≡ digits w (a₀ + b₀) (a₁ + b₁) (a₂ + b₂) (a₃ + b₃) + 0 → R + w * (w * (w * w)) * c ≡ digits w a₀ a₁ a₂ a₃ + digits w b₀ b₁ b₂ b₃
added w a₀ a₁ a₂ a₃ b₀ b₁ b₂ b₃ R c e = omega arith

-- the words of x and y, added with carries; also the words of r and y taken from x, with borrows
pub sum : (x y r : U256) (c₀ c₁ c₂ c : ℕ) → r.w0 + c₀ * 2 ^ 64 ≡ x.w0 + y.w0 + 0 → r.w1 + c₁ * 2 ^ 64 ≡ x.w1 + y.w1 + c₀ → r.w2 + c₂ * 2 ^ 64 ≡ x.w2 + y.w2 + c₁ → r.w3 + c * 2 ^ 64 ≡ x.w3 + y.w3 + c₂ → value_of r + limit * c ≡ value_of x + value_of y
unfolding value_of limit
sum x y r c₀ c₁ c₂ c p₀ p₁ p₂ p₃ = added (2 ^ 64) x.w0 x.w1 x.w2 x.w3 y.w0 y.w1 y.w2 y.w3 (value_of r) c (chain (2 ^ 64) r.w0 r.w1 r.w2 r.w3 _ _ _ _ c₀ c₁ c₂ c 0 p₀ p₁ p₂ p₃)

scaled : (w p a₀ a₁ a₂ a₃ R c : ℕ) → R + w * (w * (w * (w * c))) ≡ digits w (a₀ * p) (a₁ * p) (a₂ * p) (a₃ * p) + 0 → R + w * (w * (w * w)) * c ≡ digits w a₀ a₁ a₂ a₃ * p
scaled w p a₀ a₁ a₂ a₃ R c e = omega arith

-- the words of x, each times p, with what goes on
pub product : (x r : U256) (p : ℕ) (c₀ c₁ c₂ c : ℕ) → r.w0 + c₀ * 2 ^ 64 ≡ x.w0 * p + 0 → r.w1 + c₁ * 2 ^ 64 ≡ x.w1 * p + c₀ → r.w2 + c₂ * 2 ^ 64 ≡ x.w2 * p + c₁ → r.w3 + c * 2 ^ 64 ≡ x.w3 * p + c₂ → value_of r + limit * c ≡ value_of x * p
unfolding value_of limit
product x r p c₀ c₁ c₂ c p₀ p₁ p₂ p₃ = scaled (2 ^ 64) p x.w0 x.w1 x.w2 x.w3 (value_of r) c (chain (2 ^ 64) r.w0 r.w1 r.w2 r.w3 _ _ _ _ c₀ c₁ c₂ c 0 p₀ p₁ p₂ p₃)

-- a result with what goes on from its highest word, dropped
pub wrapped : (m r c v : ℕ) → r < m → r + m * c ≡ v → r ≡ v % m
wrapped m r c v l e = sym (ap (λ (n : ℕ). n % m) (sym e) ∙ add-mul-mod_self_left r m c ∙ mod-eq_of_lt l)
