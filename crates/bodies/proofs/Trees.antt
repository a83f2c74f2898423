-- Laws of parent tables that join a relation, and of links among the first corners of a table. Assumes nothing.
use mathlib.Core.Path.{◌≡◌, refl, sym, ◌∙◌, subst}
use mathlib.Core.Logic.{◌⊎◌, inl, inr, ⊎_elim}
use mathlib.Core.List.{List}
use Prim.Native.Nat.{ℕ, ◌+◌, ◌*◌, ◌<◌, ◌≤◌}
use native.Mathlib.Omega.{arith}
use native.Mathlib.Nat.{not-suc-le-zero}
use native.Mathlib.Decide.{ℕ_discrete}
use lib.ListN.{length, get_or}
use Rattle.lists.specs.Chain.{Chain, stay, ahead, back}
use Rattle.lists.specs.Labels.{Lowest}
use Rattle.lists.proofs.Chains.{chain_map, chain_keeps, chain_to}
use Rattle.lists.proofs.Stores.{at_eq}
use Rattle.lists.proofs.Labelled.{lowest_map}
use Rattle.bodies.specs.Forest.{Up, Kept, Joined}
use Rattle.bodies.specs.Bodies.{BodyRoots}
use Rattle.bodies.specs.Tables.{Link, Tied}
use Rattle.bodies.proofs.Corners.{row_same, link_together, together_links}

-- each its own parent: nothing is joined
pub tied_start : {R : ℕ → ℕ → Type 0} (p : List ℕ) → ((a : ℕ) → a < length p → get_or p a 0 ≡ a) → ((a b : ℕ) → R a b → ⊥) → Tied R p
tied_start p own none =
    record {
      down = λ a l. omega (arith, own a l);
      sound = λ a b up. chain_to (sym (own a up.0) ∙ up.1) stay;
      done = λ a b r. absurd (none a b r);
    }

-- the same pairs, said another way
pub tied_map : {R S : ℕ → ℕ → Type 0} {p : List ℕ} → ((a b : ℕ) → R a b → S a b) → ((a b : ℕ) → S a b → R a b) → Tied R p → Tied S p
tied_map f g T =
    record { down = T.down; sound = λ a b u. chain_map (λ c d r. ahead (f c d r) stay) (T.sound a b u); done = λ a b s. T.done a b (g a b s) }

-- a pair more is joined
pub tied_join : {R S : ℕ → ℕ → Type 0} {p q : List ℕ} (x y : ℕ) → Tied R p → Joined p x y q
    → ((a b : ℕ) → R a b → S a b) → S x y → ((a b : ℕ) → S a b → R a b ⊎ ((a ≡ x) × (b ≡ y))) → Tied S q
tied_join {R} {S} {p} {q} x y T J more here split =
    record {
      down = J.down;
      sound = λ a b up.
          chain_map
          (λ c d u. ⊎_elim (λ v. chain_map (λ e f r. ahead (more e f r) stay) (T.sound c d v)) (λ e. rw (e.0, e.1) (ahead here stay)) u)
          (J.only a b up);
      done = λ a b s. ⊎_elim (λ r. chain_map J.more (T.done a b r)) (λ e. rw (e.0, e.1) J.way) (split a b s);
    }

-- a pair more, which has one parent already
pub tied_one : {R S : ℕ → ℕ → Type 0} {p : List ℕ} (x y : ℕ) → Tied R p → x < length p → y < length p → get_or p x 0 ≡ get_or p y 0
    → ((a b : ℕ) → R a b → S a b) → ((a b : ℕ) → S a b → R a b ⊎ ((a ≡ x) × (b ≡ y))) → Tied S p
tied_one {R} {S} {p} x y T l m same more split =
    record {
      down = T.down;
      sound = λ a b up. chain_map (λ e f r. ahead (more e f r) stay) (T.sound a b up);
      done = λ a b s. ⊎_elim (λ r. T.done a b r) (λ e. rw (e.0, e.1) (ahead (l, same) (back (m, refl) stay))) (split a b s);
    }

-- a flat table that keeps what is joined has the lowest of each chain
pub tied_flat : {R : ℕ → ℕ → Type 0} {p q : List ℕ} → Tied R p → Kept p q → ((a : ℕ) → a < length p → get_or q (get_or q a 0) 0 ≡ get_or q a 0) → Lowest R (length q) q
tied_flat {R} {p} {q} T K flat =
    let len : length q ≡ length p = K.long in
    record {
      every = refl;
      chain = λ i l. chain_map T.sound (K.only i (get_or q i 0) (l, refl));
      least = λ i j l m c.
          let ups : Chain (Up q) i j = chain_map K.more (chain_map T.done c) in
          let e : get_or q i 0 ≡ get_or q j 0 = chain_keeps (λ a. get_or q a 0) (λ a b up. sym (flat a (let u = up.0 in omega arith)) ∙ at_eq q up.1) ups in
          omega (arith, K.down j m);
    }

-- ---- links

-- among no corners there is none
pub link_none : (k : ℕ) (verts : List ℕ) (x y : ℕ) → Link k verts 0 x y → ⊥
link_none k verts x y L = not-suc-le-zero L.before

module _ (k : ℕ) (verts : List ℕ) (i j : ℕ) (narrow : j < k) where
  -- one corner more: the links before it, and its own
  pub link_more : (x y : ℕ) → Link k verts (i * k + j) x y → Link k verts (i * k + (j + 1)) x y
  link_more x y L =
      record { element = L.element; corner = L.corner; narrow = L.narrow; before = let b = L.before in omega arith; first = L.first; other = L.other }

  pub link_here : Link k verts (i * k + (j + 1)) (get_or verts (i * k) 0) (get_or verts (i * k + j) 0)
  link_here = record { element = i; corner = j; narrow = narrow; before = omega arith; first = refl; other = refl }

  pub link_split : (x y : ℕ) → Link k verts (i * k + (j + 1)) x y
      → Link k verts (i * k + j) x y ⊎ ((x ≡ get_or verts (i * k) 0) × (y ≡ get_or verts (i * k + j) 0))
  link_split x y L =
      elim (ℕ_discrete (L.element * k + L.corner) (i * k + j)) [
        | yes e ↦
            let s : L.element ≡ i = row_same k L.element L.corner i j L.narrow narrow e in
            inr (sym L.first ∙ subst (λ (m : ℕ). get_or verts (L.element * k) 0 ≡ get_or verts (m * k) 0) s refl, sym L.other ∙ at_eq verts e)
        | no n ↦
            inl
            (record { element = L.element; corner = L.corner; narrow = L.narrow; before = let b = L.before in omega arith; first = L.first; other = L.other })
      ]

-- the same links, where the count of corners is said another way
pub tied_at : {k : ℕ} {verts p q : List ℕ} {m n : ℕ} → m ≡ n → q ≡ p → Tied (Link k verts m) p → Tied (Link k verts n) q
tied_at {k} {verts} {p} {q} {m} {n} e d T = rw (d, ← e) T

-- the first corner is its own
pub tied_first : (k : ℕ) (verts : List ℕ) (i : ℕ) {p : List ℕ} → 1 ≤ k → get_or verts (i * k) 0 < length p → Tied (Link k verts (i * k)) p → Tied (Link k verts (i * k + 1)) p
tied_first k verts i {p} some l T =
    let e : i * k + 0 ≡ i * k = omega arith in
    let d : i * k + (0 + 1) ≡ i * k + 1 = omega arith in
    let q : get_or verts (i * k + 0) 0 ≡ get_or verts (i * k) 0 = at_eq verts e in
    let m : get_or verts (i * k + 0) 0 < length p = omega arith in
    tied_at d refl
    (tied_one (get_or verts (i * k) 0) (get_or verts (i * k + 0) 0) (tied_at (sym e) refl T) l m (sym (at_eq p q)) (link_more k verts i 0 some) (link_split k verts i 0 some))

-- a flat table that joins all links has the lowest particle of each body
pub body_roots : {n k : ℕ} {verts p q : List ℕ} → Tied (Link k verts (n * k)) p → Kept p q
    → ((a : ℕ) → a < length p → get_or q (get_or q a 0) 0 ≡ get_or q a 0) → BodyRoots n k verts q
body_roots T K flat =
    record {
      lowest = λ es C.
          lowest_map (λ i j c. chain_map (λ x y L. ahead (link_together C x y L) stay) c) (λ i j c. chain_map (together_links C) c) (tied_flat T K flat);
      down = K.down;
      flat = λ x l. flat x (omega (arith, K.long));
    }
