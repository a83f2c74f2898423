-- Laws of the tables of a fan: the straps that they name are structural edges that hold the particle. Assumes nothing.
use Prim.Native.Nat.{ℕ, zero, suc, ◌+◌, ◌<◌, zero-le, suc-le-suc}
use native.Mathlib.Nat.{le_of_suc-le-suc, not-suc-le-zero}
use native.Mathlib.Omega.{arith}
use mathlib.Core.Path.{◌≡◌, refl, sym, ap, ◌∙◌, subst}
use mathlib.Core.Bool.{Bool, true, false}
use mathlib.Core.List.{List, [], ◌∷◌, map}
use lib.ListN.{length, get_or}
use lib.Seq.{get_or-take}
use lib.Ieee.{Float}
use borrow.Author.Tests.{eqb-true}
use Rattle.lists.specs.Lists.{pick, sift, stands, tab}
use Rattle.model.specs.Mesh.{Edge, Mesh, blank_edge}
use Rattle.model.specs.Elements.{Kind, Straps, Element, structural?, ends_of, strap_element, straps_from, elements_of, fan_of, corners_per_of}
use Rattle.mesh.specs.At.{mesh_at}
use Rattle.mesh.specs.declared.Counts.{Counts}
use Rattle.elements.specs.Table.{Tabled}
use Rattle.links.specs.Links.{holds}
use Rattle.work.proofs.Grows.{edges_many, edges_get}
use Rattle.split.specs.Growing.{StrapsNamed}

-- each of a list of elements is as P says
abbrev Each : (Element → Type 0) → List Element → Type 0
Each P [] = Unit {0}
Each P (e ∷ es) = P e × Each P es

-- it passed the test too, where it was sifted
abbrev Passed : (Element → Type 0) → (Element → Bool) → Element → Type 0
Passed P p e = P e × (p e ≡ true)

each_pick : (P : Element → Type 0) (p : Element → Bool) (e : Element) (es : List Element) (b : Bool) → p e ≡ b → P e → Each (Passed P p) es → Each (Passed P p) (pick b (e ∷ es) es)
each_pick P p e es true q h s = ((h, q), s)
each_pick P p e es false q h s = s

each_sift : (P : Element → Type 0) (p : Element → Bool) (es : List Element) → Each P es → Each (Passed P p) (sift p es)
unfolding sift
each_sift P p [] r = tt
each_sift P p (e ∷ es) r = each_pick P p e (sift p es) (p e) refl r.0 (each_sift P p es r.1)

-- what follows of its number holds of the number at each place
each_at : (P : Element → Type 0) (Q : ℕ → Type 0) → ((e : Element) → P e → Q e.number) → (es : List Element) → Each P es → (i : ℕ) → i < length es → Q (get_or (map (λ (e : Element). e.number) es) i 0)
each_at P Q f [] r i l = absurd (not-suc-le-zero l)
each_at P Q f (e ∷ es) r zero l = f e r.0
each_at P Q f (e ∷ es) r (suc i) l = each_at P Q f es r.1 i (le_of_suc-le-suc l)

-- an element is a structural edge of the list
abbrev Strap : List Edge → Element → Type 0
Strap es x = (x.number < length es) × ((get_or es x.number blank_edge).structural ≡ 1) × (x.corners ≡ ends_of (get_or es x.number blank_edge))

-- a number names a structural edge that holds v
abbrev pub Structural : List Edge → ℕ → ℕ → Type 0
Structural es v i = (i < length es) × ((get_or es i blank_edge).structural ≡ 1) × (stands v (ends_of (get_or es i blank_edge)) ≡ true)

-- an edge before others: it is an element where it is structural
strap_each : (whole : List Edge) (a : ℕ) (e : Edge) (es : List Edge) (t : Bool) → structural? e ≡ t → (a < length whole) × (get_or whole a blank_edge ≡ e)
    → Each (Strap whole) (straps_from (suc a) es) → Each (Strap whole) (pick t (strap_element a e ∷ straps_from (suc a) es) (straps_from (suc a) es))
strap_each whole a e es true q here rest = ((here.0, ap (λ (x : Edge). x.structural) here.1 ∙ eqb-true e.structural 1 q, ap ends_of (sym here.1)), rest)
strap_each whole a e es false q here rest = rest

-- the straps of a list's end are structural edges of it
straps_each : (whole : List Edge) (a : ℕ) (es : List Edge) → ((j : ℕ) → j < length es → (a + j < length whole) × (get_or whole (a + j) blank_edge ≡ get_or es j blank_edge))
    → Each (Strap whole) (straps_from a es)
unfolding straps_from
straps_each whole a [] h = tt
straps_each whole a (e ∷ es) h =
    strap_each whole a e es (structural? e) refl
    (let r = h 0 (suc-le-suc zero-le) in
    let z : a + 0 ≡ a = omega arith in
    subst (λ (i : ℕ). (i < length whole) × (get_or whole i blank_edge ≡ e)) z r)
    (straps_each whole (suc a) es
    (λ j l.
    let r = h (suc j) (suc-le-suc l) in
    let q : a + suc j ≡ suc a + j = omega arith in
    subst (λ (i : ℕ). (i < length whole) × (get_or whole i blank_edge ≡ get_or es j blank_edge)) q r))

-- the straps that hold v
fan_each : (A : Mesh) (v : ℕ) → Each (Passed (Strap A.edges) (λ (e : Element). stands v e.corners)) (fan_of Straps A v)
unfolding fan_of elements_of
fan_each A v =
    each_sift (Strap A.edges) (λ (e : Element). stands v e.corners) (straps_from 0 A.edges)
    (straps_each A.edges 0 A.edges
    (λ j l. let z : j ≡ 0 + j = omega arith in subst (λ (i : ℕ). (i < length A.edges) × (get_or A.edges i blank_edge ≡ get_or A.edges j blank_edge)) z (l, refl)))

-- a fan in the tables names structural edges, where its elements are straps
pub straps_structural :
    (K : Kind) (A : Mesh) (v n : ℕ) (numbers verts : List ℕ) (measures : List Float) → Tabled (corners_per_of K) (fan_of K A v) n numbers verts measures → K ≡ Straps → (i : ℕ) → i < n
    → Structural A.edges v (get_or numbers i 0)
straps_structural K A v n numbers verts measures T e i l =
    let size = T.cornered.count in
    let E : Each At (fan_of K A v) = subst (λ (k : Kind). Each At (fan_of k A v)) (sym e) (fan_each A v) in
    subst (Structural A.edges v) (ap (λ (s : List ℕ). get_or s i 0) (sym T.numbers_are) ∙ get_or-take n numbers i 0 l)
    (each_at At (Structural A.edges v) (λ x s. (s.0.0, s.0.1, ap (stands v) (sym s.0.2) ∙ s.1)) (fan_of K A v) E i (omega arith))
  where
    At : Element → Type 0
    At = Passed (Strap A.edges) (λ (x : Element). stands v x.corners)

-- the same of a mesh in blocks
pub straps_named :
    (K : Kind) (k : Counts) (points : List Float) (roots corners : List ℕ) (volumes : List Float) (ends : List ℕ) (lengths : List Float) (outline : List ℕ) (v n : ℕ) (numbers verts : List ℕ)
    (measures : List Float) → Tabled (corners_per_of K) (fan_of K (mesh_at k points roots corners volumes ends lengths outline) v) n numbers verts measures → StrapsNamed K v n numbers ends
unfolding mesh_at holds tab
straps_named K k points roots corners volumes ends lengths outline v n numbers verts measures T =
    record {
      structural =
          λ e i l.
          let s = straps_structural K (mesh_at k points roots corners volumes ends lengths outline) v n numbers verts measures T e i l in
          let many = edges_many k.edges ends lengths in
          ap (λ (x : Edge). x.structural) (sym (edges_get k.edges ends lengths (get_or numbers i 0) (omega (arith, s.0)))) ∙ s.1;
      holding =
          λ e i l.
          let s = straps_structural K (mesh_at k points roots corners volumes ends lengths outline) v n numbers verts measures T e i l in
          let many = edges_many k.edges ends lengths in
          ap (λ (x : Edge). stands v (ends_of x)) (sym (edges_get k.edges ends lengths (get_or numbers i 0) (omega (arith, s.0)))) ∙ s.2;
    }
