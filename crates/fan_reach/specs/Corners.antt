-- Only proofs need this file: the places of a fan's corners linked by their particles, so that the elements that hold a particle are met along a chain.
use Rattle.std.specs.Prelude.{◌≡◌, List, ℕ, ◌+◌, ◌/◌, ◌%◌, ◌<◌, ◌≤◌, length, get_or}
use Rattle.fan.specs.Fan.{Fan}

-- the chain of place p: the last six bits of its particle
abbrev pub chain_of : List ℕ → ℕ → ℕ
chain_of verts p = get_or verts p 0 % 64

-- e is the first place of chain b that is not before f, or is no place where there is none
pub record FirstFrom (verts : List ℕ) (b f e : ℕ) : Type 0 where
  pub behind : f ≤ e
  pub first : (p : ℕ) → f ≤ p → p < length verts → chain_of verts p ≡ b → e ≤ p
  pub inside : e < length verts → chain_of verts e ≡ b

-- The places from f on are linked: a head is the first of them in its chain, and behind each the next one of its chain is named.
pub record LinkedFrom (verts heads nexts : List ℕ) (f : ℕ) : Type 0 where
  pub few : length verts ≤ 4096
  pub heads_long : length heads ≡ 64
  pub nexts_long : length nexts ≡ 4096
  pub head : (b : ℕ) → b < 64 → FirstFrom verts b f (get_or heads b 0)
  pub next : (p : ℕ) → f ≤ p → p < length verts → FirstFrom verts (chain_of verts p) (p + 1) (get_or nexts p 0)

-- What is lent beside a fan whose neighbours share a particle besides v: either every place is linked, or the heads are not as many as the chains.
pub record Lent (F : Fan) (heads nexts : List ℕ) : Type 0 where
  pub linked : length heads ≡ 64 → LinkedFrom F.verts heads nexts 0
  pub shares : 0 < F.needed

-- element b holds the particle x, at a place before e
abbrev pub Holds : Fan → ℕ → ℕ → ℕ → Type 0
Holds F x e b = (p : ℕ) × ((p < e) × ((p < length F.verts) × ((get_or F.verts p 0 ≡ x) × (p / F.k ≡ b))))

-- element b holds a particle, other than v, that stands at a place from f on and before e
abbrev pub Meets : Fan → ℕ → ℕ → ℕ → Type 0
Meets F f e b = (p : ℕ) × ((f ≤ p) × ((p < e) × ((get_or F.verts p 0 ≡ F.v → ⊥) × Holds F (get_or F.verts p 0) (length F.verts) b)))
