-- Laws of chains. Assumes nothing.
use mathlib.Core.Path.{◌≡◌, refl, sym, ◌∙◌, subst}
use Prim.Native.Nat.{ℕ}
use Rattle.lists.specs.Chain.{Chain, stay, ahead, back}

-- one chain behind another is a chain
pub chain_trans : {R : ℕ → ℕ → Type 0} {i j k : ℕ} → Chain R i j → Chain R j k → Chain R i k
chain_trans stay d = d
chain_trans (ahead r c) d = ahead r (chain_trans c d)
chain_trans (back r c) d = back r (chain_trans c d)

-- a chain leads back
pub chain_sym : {R : ℕ → ℕ → Type 0} {i j : ℕ} → Chain R i j → Chain R j i
chain_sym stay = stay
chain_sym (ahead r c) = chain_trans (chain_sym c) (back r stay)
chain_sym (back r c) = chain_trans (chain_sym c) (ahead r stay)

-- where each step of R is a chain of S, so is each chain of R
pub chain_map : {R S : ℕ → ℕ → Type 0} → ((a b : ℕ) → R a b → Chain S a b) → {i j : ℕ} → Chain R i j → Chain S i j
chain_map f stay = stay
chain_map f (ahead r c) = chain_trans (f _ _ r) (chain_map f c)
chain_map f (back r c) = chain_trans (chain_sym (f _ _ r)) (chain_map f c)

-- what each step of R keeps, a chain keeps
pub chain_keeps : {A : Type 0} {R : ℕ → ℕ → Type 0} (f : ℕ → A) → ((a b : ℕ) → R a b → f a ≡ f b) → {i j : ℕ} → Chain R i j → f i ≡ f j
chain_keeps f h stay = refl
chain_keeps f h (ahead r c) = h _ _ r ∙ chain_keeps f h c
chain_keeps f h (back r c) = sym (h _ _ r) ∙ chain_keeps f h c

-- a chain to a number is one to its equal
pub chain_to : {R : ℕ → ℕ → Type 0} {i j k : ℕ} → j ≡ k → Chain R i j → Chain R i k
chain_to {R} {i} e c = subst (λ (m : ℕ). Chain R i m) e c

-- where each step stands between numbers of which Q holds, Q passes along a chain
pub chain_within : {R : ℕ → ℕ → Type 0} (Q : ℕ → Type 0) → ((a b : ℕ) → R a b → Q a × Q b) → {i j : ℕ} → Q i → Chain R i j → Q j
chain_within Q h q stay = q
chain_within Q h q (ahead r c) = chain_within Q h (h _ _ r).1 c
chain_within Q h q (back r c) = chain_within Q h (h _ _ r).0 c
