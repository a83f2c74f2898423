-- Laws of parent tables. Assumes nothing.
use mathlib.Core.Path.{◌≡◌, refl, sym, ◌∙◌}
use mathlib.Core.Logic.{inl, inr, ⊎_elim}
use mathlib.Core.List.{List}
use Prim.Native.Nat.{ℕ, ◌+◌, ◌<◌, ◌≤◌}
use native.Mathlib.Omega.{arith}
use native.Mathlib.Decide.{ℕ_discrete}
use lib.ListN.{length, get_or, set, length-set}
use lib.Seq.{get_or-set_same, get_or-set_other, set-get_or}
use Rattle.lists.specs.Chain.{Chain, stay, ahead, back}
use Rattle.lists.proofs.Chains.{chain_trans, chain_sym, chain_map, chain_to}
use Rattle.lists.proofs.Stores.{stored, at_eq}
use Rattle.bodies.specs.Forest.{Up, Down, Kept, UpOr, Joined}

pub kept_refl : (p : List ℕ) → Down p → Kept p p
kept_refl p d = record { long = refl; down = d; more = λ a b u. ahead u stay; only = λ a b u. ahead u stay; tops = λ a e. e }

pub kept_trans : {p q r : List ℕ} → Kept p q → Kept q r → Kept p r
kept_trans A B =
    record {
      long = B.long ∙ A.long;
      down = B.down;
      more = λ a b u. chain_map B.more (A.more a b u);
      only = λ a b u. chain_map A.only (B.only a b u);
      tops = λ a e. B.tops a (A.tops a e);
    }

-- an element that is no root is given its parent's parent
halved : (p : List ℕ) (i : ℕ) → Down p → i < length p → (get_or p i 0 ≡ i → ⊥) → Kept p (set p i (get_or p (get_or p i 0) 0))
halved p i d l ne =
    let u : ℕ = get_or p i 0 in
    let w : ℕ = get_or p u 0 in
    let lu : u < i = omega (arith, d i l) in
    let q : List ℕ = set p i w in
    let len : length q ≡ length p = length-set p i w in
    let at_u : get_or q u 0 ≡ w = get_or-set_other p i u w 0 (omega arith) in
    record {
      long = len;
      down = λ a la. ⊎_elim (λ y. omega (arith, d u (omega arith), d i l)) (λ y. omega (arith, d a (omega arith))) (stored p i w a l);
      more = λ a b up.
          ⊎_elim
          (λ y.
          let eb : b ≡ u = sym up.1 ∙ at_eq p y.0 in
          ahead {j = w} (omega arith, y.1) (back (omega arith, at_eq q eb ∙ at_u) stay))
          (λ y. ahead (omega arith, y.1 ∙ up.1) stay)
          (stored p i w a l);
      only = λ a b up.
          ⊎_elim
          (λ y. ahead {j = u} (omega arith, at_eq p y.0) (ahead (omega arith, sym y.1 ∙ up.1) stay))
          (λ y. ahead (omega arith, sym y.1 ∙ up.1) stay)
          (stored p i w a l);
      tops = λ a e. ⊎_elim (λ y. absurd (ne (at_eq p (sym y.0) ∙ e ∙ y.0))) (λ y. y.1 ∙ e) (stored p i w a l);
    }

-- any element is given its parent's parent
pub raised : (p : List ℕ) (i : ℕ) → Down p → i < length p → Kept p (set p i (get_or p (get_or p i 0) 0))
raised p i d l =
    elim (ℕ_discrete (get_or p i 0) i) [
      | yes e ↦ rw (at_eq p e, set-get_or p i 0) (kept_refl p d)
      | no ne ↦ halved p i d l ne
    ]

-- raising from the bottom makes a table flat
pub raised_flat : (p : List ℕ) (i : ℕ) → Down p → i < length p
    → ((a : ℕ) → a < i → get_or p (get_or p a 0) 0 ≡ get_or p a 0)
    → (a : ℕ) → a < i + 1 → get_or (set p i (get_or p (get_or p i 0) 0)) (get_or (set p i (get_or p (get_or p i 0) 0)) a 0) 0 ≡ get_or (set p i (get_or p (get_or p i 0) 0)) a 0
raised_flat p i d l flat a la =
    let u : ℕ = get_or p i 0 in
    let w : ℕ = get_or p u 0 in
    let q : List ℕ = set p i w in
    let du : u ≤ i = d i l in
    ⊎_elim
    (λ y.
    elim (ℕ_discrete u i) [
      | yes e ↦ at_eq q (y.1 ∙ at_eq p e ∙ e ∙ sym y.0)
      | no ne ↦ at_eq q y.1 ∙ get_or-set_other p i w w 0 (omega (arith, d u (omega arith))) ∙ flat u (omega arith) ∙ sym y.1
    ])
    (λ y. at_eq q y.1 ∙ get_or-set_other p i (get_or p a 0) w 0 (omega (arith, d a (omega arith))) ∙ flat a (omega arith) ∙ sym y.1)
    (stored p i w a l)

-- a root a is given a parent b that is not above it, where x has the root a, and y is led to b
pub linked : (p q : List ℕ) (i j x y a b : ℕ) → Kept p q → a < length q → get_or q a 0 ≡ a → b ≤ a → Chain (Up q) x a → Chain (Up q) y b
    → Chain (UpOr p i j) x y → (Chain (Up (set q a b)) x y → Chain (Up (set q a b)) i j) → Joined p i j (set q a b)
linked p q i j x y a b K l top le wa wb xy turn =
    let r : List ℕ = set q a b in
    let len : length r ≡ length q = length-set q a b in
    let at_a : get_or r a 0 ≡ b = get_or-set_same q a b 0 l in
    let more : (c d : ℕ) → Up q c d → Chain (Up r) c d = λ c d up.
    ⊎_elim
    (λ z. chain_to (z.0 ∙ sym top ∙ at_eq q (sym z.0) ∙ up.1) stay)
    (λ z. ahead (omega arith, z.1 ∙ up.1) stay)
    (stored q a b c l) in
    let old : (c d : ℕ) → Up q c d → Chain (UpOr p i j) c d = λ c d up. chain_map (λ e f u. ahead (inl u) stay) (K.only c d up) in
    record {
      long = len ∙ K.long;
      down = λ c lc. ⊎_elim (λ z. omega arith) (λ z. omega (arith, K.down c (omega arith))) (stored q a b c l);
      more = λ c d up. chain_map more (K.more c d up);
      way = turn (chain_trans (chain_map more wa) (ahead (omega arith, at_a) (chain_sym (chain_map more wb))));
      only = λ c d up.
          ⊎_elim
          (λ z.
          chain_to (sym z.1 ∙ up.1)
          (chain_sym
          (chain_to (sym z.0) (chain_trans (chain_sym (chain_map old wb)) (chain_trans (chain_sym xy) (chain_map old wa))))))
          (λ z. old c d (omega arith, sym z.1 ∙ up.1))
          (stored q a b c l);
    }

-- two that have one parent are joined already
pub joined_one : (p : List ℕ) (i j : ℕ) → Down p → i < length p → j < length p → get_or p i 0 ≡ get_or p j 0 → Joined p i j p
joined_one p i j d l m same =
    record {
      long = refl;
      down = d;
      more = λ a b u. ahead u stay;
      way = ahead (l, same) (back (m, refl) stay);
      only = λ a b u. ahead (inl u) stay;
    }

-- a root is given the parent of another, which is below it
pub joined_root : (p : List ℕ) (i j : ℕ) → Down p → i < length p → j < length p → get_or p i 0 ≡ i → get_or p j 0 < i → Joined p i j (set p i (get_or p j 0))
joined_root p i j d l m top below =
    linked p p i j i j i (get_or p j 0) (kept_refl p d) l top (omega arith) stay (ahead (m, refl) stay) (ahead (inr (refl, refl)) stay) (λ w. w)
