-- From the tables of a fan and its groups to those of an opening. Assumes nothing.
use mathlib.Core.Path.{◌≡◌, refl, sym, ◌∙◌, ap}
use mathlib.Core.Bool.{Bool}
use mathlib.Core.List.{List, [], ◌∷◌, ◌++◌, map}
use Prim.Native.Nat.{ℕ, zero, suc, ◌+◌, ◌*◌, ◌<◌, ◌≤◌, zero-le, suc-le-suc}
use native.Mathlib.Omega.{arith}
use native.Mathlib.Nat.{not-suc-le-zero, le_of_suc-le-suc, suc-mul}
use lib.ListN.{length, get_or, take, drop}
use lib.Seq.{get_or-take, take_at, drop-append-add}
use lib.Ieee.{Float, nan}
use Rattle.lists.specs.Lists.{stands, sift, each}
use Rattle.lists.proofs.Sifts.{pick_by}
use Rattle.fan.specs.Groups.{groups_of, count_of}
use Rattle.fan.proofs.Shared.{row_end}
use Rattle.model.specs.Mesh.{Triangle, Edge, Mesh}
use Rattle.model.specs.Elements.{Kind, Triangles, Straps, Nothing, Element, structural?, strap_element, triangles_from, straps_from, elements_of, fan_of, grid_of}
use Rattle.model.specs.Split.{Part, parts_of, opening_of}
use Rattle.elements.specs.Table.{elements_in, holding, Tabled}
use Rattle.split_plan.specs.Opened.{blank_part, opening_by, Ringed, Weighted, Numbered}

-- ---- parts

-- how many
parts_length : (es : List Element) (gs : List ℕ) → length gs ≡ length es → length (parts_of es gs) ≡ length es
unfolding parts_of
parts_length [] gs e = refl
parts_length (x ∷ es) [] e = absurd (omega arith)
parts_length (x ∷ es) (g ∷ gs) e = ap suc (parts_length es gs (omega arith))

-- a part has what its element has, and its group
module _ {B : Type 0} (f : Element → B) (h : Part → B) (same : (e : Element) (g : ℕ) → h (record { number = e.number; corners = e.corners; measure = e.measure; group = g }) ≡ f e) where
  -- what a part has of its element
  part_has : (es : List Element) (gs : List ℕ) → length gs ≡ length es → (i : ℕ) → i < length es → (d : B) → h (get_or (parts_of es gs) i blank_part) ≡ get_or (map f es) i d
  unfolding parts_of
  part_has [] gs e i l d = absurd (not-suc-le-zero l)
  part_has (x ∷ es) [] e i l d = absurd (omega arith)
  part_has (x ∷ es) (g ∷ gs) e zero l d = same x g
  part_has (x ∷ es) (g ∷ gs) e (suc i) l d = part_has es gs (omega arith) i (le_of_suc-le-suc l) d

-- the group of a part
part_group : (es : List Element) (gs : List ℕ) → length gs ≡ length es → (i : ℕ) → i < length es → (get_or (parts_of es gs) i blank_part).group ≡ get_or gs i 0
unfolding parts_of
part_group [] gs e i l = absurd (not-suc-le-zero l)
part_group (x ∷ es) [] e i l = absurd (omega arith)
part_group (x ∷ es) (g ∷ gs) e zero l = refl
part_group (x ∷ es) (g ∷ gs) e (suc i) l = part_group es gs (omega arith) i (le_of_suc-le-suc l)

-- ---- rows

-- a row of k numbers lies the same in a table and in a front of it that is long enough
row_front : {A : Type 0} (k a m : ℕ) (l : List A) → a + k ≤ m → take k (drop a (take m l)) ≡ take k (drop a l)
row_front zero a m l h = refl
row_front (suc k) zero zero l h = absurd (omega arith)
row_front (suc k) zero (suc m) [] h = refl
row_front {A} (suc k) zero (suc m) (x ∷ l) h = ap (λ (s : List A). x ∷ s) (row_front k zero m l (omega arith))
row_front (suc k) (suc a) zero l h = absurd (omega arith)
row_front (suc k) (suc a) (suc m) [] h = refl
row_front (suc k) (suc a) (suc m) (x ∷ l) h = row_front (suc k) a m l (omega arith)

-- the ith of lists of k numbers, one behind the other
each_row : {A : Type 0} (f : A → List ℕ) (k : ℕ) (l : List A) → ((i : ℕ) → i < length l → length (get_or (map f l) i []) ≡ k)
    → (i : ℕ) → i < length l → take k (drop (i * k) (each f l)) ≡ get_or (map f l) i []
unfolding each
each_row f k [] w i h = absurd (not-suc-le-zero h)
each_row f k (a ∷ l) w zero h =
    let e : 0 * k ≡ 0 = omega arith in
    ap (λ (m : ℕ). take k (drop m (f a ++ each f l))) e ∙ take_at (f a) (each f l) k (w 0 h)
each_row f k (a ∷ l) w (suc i) h =
    let s = w 0 (suc-le-suc zero-le) in
    let e : suc i * k ≡ length (f a) + i * k = suc-mul i k ∙ omega arith in
    ap (λ (m : ℕ). take k (drop m (f a ++ each f l))) e
    ∙ ap (take k) (drop-append-add (f a) (each f l) (i * k))
    ∙ each_row f k l (λ j m. w (suc j) (suc-le-suc m)) i (le_of_suc-le-suc h)

-- ---- the tables of an opening

module _ {k n : ℕ} {numbers verts : List ℕ} {measures : List Float} (v before : ℕ) (es : List Element) (T : Tabled k es n numbers verts measures) (gs : List ℕ) (count : ℕ) (long : length gs ≡ n) where
  -- as many groups as elements
  same_long : length gs ≡ length es
  same_long = long ∙ T.cornered.count

  -- a row is that of an element
  inside : (i : ℕ) → i < n → i < length es
  inside i l = let e = T.cornered.count in omega arith

  -- a row has its element's corners
  row_is : (i : ℕ) → i < n → get_or (map (λ (e : Element). e.corners) es) i [] ≡ take k (drop (i * k) verts)
  row_is i l =
      sym (each_row (λ (e : Element). e.corners) k es T.cornered.whole i (inside i l))
      ∙ ap (λ (s : List ℕ). take k (drop (i * k) s)) (sym T.cornered.corners_are)
      ∙ row_front k (i * k) (n * k) verts (row_end i n k l)

  -- the corners and groups of the opening
  pub ringed_by : ((i : ℕ) → i < n → get_or gs i 0 < count) → Ringed k (opening_by v before es gs count) n verts gs
  ringed_by below =
      record {
        size = parts_length es gs same_long ∙ sym T.cornered.count;
        corners_are = λ i l. part_has (λ (e : Element). e.corners) (λ (p : Part). p.corners) (λ e g. refl) es gs same_long i (inside i l) [] ∙ row_is i l;
        group_is = λ i l. part_group es gs same_long i (inside i l);
        below = below;
      }

  -- its measures
  pub weighted_by : Weighted (opening_by v before es gs count) n measures
  weighted_by =
      record {
        measure_is =
            λ i l.
            part_has (λ (e : Element). e.measure) (λ (p : Part). p.measure) (λ e g. refl) es gs same_long i (inside i l) nan
            ∙ ap (λ (s : List Float). get_or s i nan) (sym T.measures_are)
            ∙ get_or-take n measures i nan l;
      }

-- ---- numbers that rise

-- the numbers of a list rise from a on
abbrev pub Rises : ℕ → List Element → Type 0
Rises a [] = Unit {0}
Rises a (e ∷ es) = (a ≤ e.number) × Rises (suc e.number) es

-- what rises from b on rises from a on, where a is lower
rises_lower : (a b : ℕ) (es : List Element) → a ≤ b → Rises b es → Rises a es
rises_lower a b [] l r = tt
rises_lower a b (e ∷ es) l r = (omega (arith, r.0), r.1)

-- those of all triangles
pub rises_triangles : (a : ℕ) (ts : List Triangle) → Rises a (triangles_from a ts)
unfolding triangles_from
rises_triangles a [] = tt
rises_triangles a (t ∷ ts) = (omega arith, rises_triangles (suc a) ts)

-- those of all straps
pub rises_straps : (a : ℕ) (es : List Edge) → Rises a (straps_from a es)
unfolding straps_from
rises_straps a [] = tt
rises_straps a (e ∷ es) =
    let r = rises_straps (suc a) es in
    pick_by (Rises a) (structural? e) {x = strap_element a e ∷ straps_from (suc a) es} {y = straps_from (suc a) es} (omega arith, r) (rises_lower a (suc a) (straps_from (suc a) es) (omega arith) r)

-- those of what is sifted
pub rises_sift : (p : Element → Bool) (a : ℕ) (es : List Element) → Rises a es → Rises a (sift p es)
unfolding sift
rises_sift p a [] r = tt
rises_sift p a (e ∷ es) r =
    let s = rises_sift p (suc e.number) es r.1 in
    pick_by (Rises a) (p e) {x = e ∷ sift p es} {y = sift p es} (r.0, s) (rises_lower a (suc e.number) (sift p es) (omega (arith, r.0)) s)

-- those of all elements of a kind
pub rises_elements : (kind : Kind) (ts : List Triangle) (es : List Edge) → Rises 0 (elements_in kind ts es)
unfolding elements_in
rises_elements Triangles ts es = rises_triangles 0 ts
rises_elements Straps ts es = rises_straps 0 es
rises_elements Nothing ts es = tt

-- those of the elements that hold v
pub rises_holding : (v : ℕ) (kind : Kind) (ts : List Triangle) (es : List Edge) → Rises 0 (holding v (elements_in kind ts es))
rises_holding v kind ts es = rises_sift (λ (e : Element). stands v e.corners) 0 (elements_in kind ts es) (rises_elements kind ts es)

-- the numbers at two places
abbrev numbers_of : List Element → List ℕ
numbers_of es = map (λ (e : Element). e.number) es

-- each number is a at least
rises_from : (a : ℕ) (es : List Element) → Rises a es → (i : ℕ) → i < length es → a ≤ get_or (numbers_of es) i 0
rises_from a [] r i l = absurd (not-suc-le-zero l)
rises_from a (e ∷ es) r zero l = r.0
rises_from a (e ∷ es) r (suc i) l = omega (arith, r.0, rises_from (suc e.number) es r.1 i (le_of_suc-le-suc l))

-- of two places the later has the higher number
rises_at : (a : ℕ) (es : List Element) → Rises a es → (i j : ℕ) → i < j → j < length es → get_or (numbers_of es) i 0 < get_or (numbers_of es) j 0
rises_at a [] r i j h l = absurd (not-suc-le-zero l)
rises_at a (e ∷ es) r i zero h l = absurd (not-suc-le-zero h)
rises_at a (e ∷ es) r zero (suc j) h l = rises_from (suc e.number) es r.1 j (le_of_suc-le-suc l)
rises_at a (e ∷ es) r (suc i) (suc j) h l = rises_at (suc e.number) es r.1 i j (le_of_suc-le-suc h) (le_of_suc-le-suc l)

module _ {k n : ℕ} {numbers verts : List ℕ} {measures : List Float} (v before : ℕ) (es : List Element) (T : Tabled k es n numbers verts measures) (gs : List ℕ) (count : ℕ) (long : length gs ≡ n) where
  -- the number at a row
  number_at : (i : ℕ) → i < n → get_or (numbers_of es) i 0 ≡ get_or numbers i 0
  number_at i l = ap (λ (s : List ℕ). get_or s i 0) (sym T.numbers_are) ∙ get_or-take n numbers i 0 l

  -- the numbers of the opening
  pub numbered_by : Rises 0 es → Numbered (opening_by v before es gs count) n numbers
  numbered_by r =
      let q = T.cornered.count in
      record {
        number_is =
            λ i l.
            part_has (λ (e : Element). e.number) (λ (p : Part). p.number) (λ e g. refl) es gs (long ∙ q) i (omega arith) 0
            ∙ number_at i l;
        rising_are = λ i j h l. omega (arith, number_at i (omega arith), number_at j l, rises_at 0 es r i j h (omega arith));
      }

-- ---- the opening of a mesh

-- its fan, as the tables have it
pub fan_is : (kind : Kind) (M : Mesh) (v : ℕ) → fan_of kind M v ≡ holding v (elements_in kind M.triangles M.edges)
unfolding fan_of elements_of elements_in
fan_is Triangles M v = refl
fan_is Straps M v = refl
fan_is Nothing M v = refl

-- the opening of a mesh, from its fan and its groups
pub opening_is : (kind : Kind) (M : Mesh) (v : ℕ) (sides : List ℕ)
    → opening_of kind M v sides
    ≡ opening_by v (length M.particles) (fan_of kind M v) (groups_of (grid_of kind v (fan_of kind M v) sides)) (count_of (grid_of kind v (fan_of kind M v) sides))
unfolding opening_of
opening_is kind M v sides = refl
