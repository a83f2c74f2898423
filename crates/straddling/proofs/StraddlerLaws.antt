-- Laws of straddlers: v and its copies as a test of numbers, the test of one edge, and the particles near v. Assumes nothing.
use mathlib.Core.Path.{◌≡◌, refl, sym, ◌∙◌, ap, ap₂, subst}
use mathlib.Core.Logic.{⊎_elim}
use mathlib.Core.Bool.{Bool, true, false, not, ◌&&◌, ◌||◌, false≢true}
use mathlib.Core.List.{List, ◌∷◌, map}
use Prim.Native.Nat.{ℕ, ◌+◌, ◌*◌, ◌/◌, ◌-◌, ◌<◌, ◌≤◌}
use native.Mathlib.Omega.{arith}
use borrow.Author.Count.{below_more}
use borrow.Author.Tests.{eq-eqb, ne_eqb, ltb-true, ltb-false}
use lib.Dec.{ltb}
use lib.ListN.{length, get_or, set, take, drop, length-set, length-map, length-take}
use lib.Seq.{get_or-set_same, get_or-take, get_or-drop}
use lib.Ieee.{Float}
use Rattle.lists.specs.Lists.{stands, any, empty, disjoint, up_to}
use Rattle.lists.proofs.Stores.{map_at, stored}
use Rattle.lists.proofs.Sifts.{stands_made, stands_get, up_to_length, up_to_at}
use Rattle.columns.specs.Block.{cell}
use Rattle.columns.proofs.Cells.{col_0, col_1}
use Rattle.split_plan.specs.Answers.{Parted}
use Rattle.split_plan.specs.Opened.{Ringed, RingRoom}
use Rattle.split_plan.proofs.Rings.{ring_empty, row_fits}
use Rattle.lists.proofs.Walks.{not_so}
use Rattle.model.specs.Mesh.{Mesh}
use Rattle.model.specs.Elements.{Kind, element?, ends_of, held, corners_per_of}
use Rattle.model.specs.Split.{Opening, ring, copies, made, parted, straddles}
use Rattle.mesh.specs.Workers.{row_at}
use Rattle.work.specs.Places.{EndsIn}
use Rattle.links.specs.Linked.{Linked, EdgesLinked}
use Rattle.elements.specs.Table.{ElementIs}
use Rattle.straddling.specs.Tests.{copies_by, HeldTold, HeldRoom, Straddling, StraddleRoom, NearMarked, NearRoom, StraddleTold}

-- ---- v and its copies

-- the numbers from a on, m of them
abbrev from : ℕ → ℕ → List ℕ
from a m = map (λ g. a + g) (up_to m)

from_length : (a m : ℕ) → length (from a m) ≡ m
from_length a m = length-map (up_to m) (λ g. a + g) ∙ up_to_length m

from_at : (a m j : ℕ) → j < m → get_or (from a m) j 0 ≡ a + j
from_at a m j h = map_at (λ g. a + g) (up_to m) j 0 0 (omega (arith, up_to_length m)) ∙ ap (λ (z : ℕ). a + z) (up_to_at m j h)

from_none : (w a m : ℕ) → (a ≤ w → w - a < m → ⊥) → false ≡ stands w (from a m)
from_none w a m h =
    not_so (stands w (from a m))
    (λ e.
    let s = stands_get w (from a m) e in
    let l : s.0 < m = omega (arith, s.1.0, from_length a m) in
    let q = from_at a m s.0 l in
    let d = s.1.1 in
    h (omega arith) (omega arith))

from_some : (w a m : ℕ) → a ≤ w → w - a < m → true ≡ stands w (from a m)
from_some w a m h l =
    let q = from_at a m (w - a) l in
    sym (stands_made w (from a m) (w - a) (omega (arith, from_length a m)) (omega arith))

from_is : (w a m : ℕ) → a ≤ w → ltb (w - a) m ≡ stands w (from a m)
from_is w a m h = by (ltb (w - a) m) refl
  where
    by : (t : Bool) → ltb (w - a) m ≡ t → t ≡ stands w (from a m)
    by true e = from_some w a m h (omega (arith, ltb-true (w - a) m e))
    by false e = from_none w a m (λ p q. omega (arith, ltb-false (w - a) m e))

module _ (w v before count : ℕ) where
  pub copy_self : w ≡ v → true ≡ stands w (copies_by v before count)
  copy_self e = rw (eq-eqb v w (sym e))

  pub copy_other : (t : Bool) → (w ≡ v → ⊥) → t ≡ stands w (from before (count - 1)) → t ≡ stands w (copies_by v before count)
  copy_other t n e = rw (ne_eqb v w (λ q. n (sym q))) e

  pub copy_low : (w ≡ v → ⊥) → w < before → false ≡ stands w (copies_by v before count)
  copy_low n h = copy_other false n (from_none w before (count - 1) (λ a b. omega arith))

  pub copy_none : (w ≡ v → ⊥) → count ≡ 0 → false ≡ stands w (copies_by v before count)
  copy_none n h = copy_other false n (from_none w before (count - 1) (λ a b. omega arith))

  pub copy_within : (w ≡ v → ⊥) → before ≤ w → ltb (w - before) (count - 1) ≡ stands w (copies_by v before count)
  copy_within n h = copy_other (ltb (w - before) (count - 1)) n (from_is w before (count - 1) h)

-- the copies of an opening
copies_are : (O : Opening) (v before count : ℕ) → O.v ≡ v → O.before ≡ before → O.count ≡ count → copies O ≡ copies_by v before count
unfolding made
copies_are O v before count p q r =
    ap₂ (λ (a : ℕ) (l : List ℕ). a ∷ l) p (ap₂ (λ (b c : ℕ). map (λ g. b + g) (up_to (c - 1))) q r)

-- ---- the test of one edge

chain : (s x y t h : Bool) → Bool
chain s x y t h = not s && not (x || (y || false)) && t && not h

chain_1 : (s x y t h : Bool) → s ≡ true → false ≡ chain s x y t h
unfolding chain
chain_1 true x y t h e = refl
chain_1 false x y t h e = absurd (false≢true e)

-- whatever comes before it
chain_2 : (s x y t h : Bool) → x ≡ true → false ≡ chain s x y t h
unfolding chain
chain_2 true x y t h d = refl
chain_2 false true y t h d = refl
chain_2 false false y t h d = absurd (false≢true d)

chain_3 : (s x y t h : Bool) → s ≡ false → x ≡ false → y ≡ true → false ≡ chain s x y t h
unfolding chain
chain_3 true x y t h e d c = absurd (false≢true (sym e))
chain_3 false true y t h e d c = absurd (false≢true (sym d))
chain_3 false false true t h e d c = refl
chain_3 false false false t h e d c = absurd (false≢true c)

-- whatever comes before it
chain_4 : (s x y t h : Bool) → t ≡ false → false ≡ chain s x y t h
unfolding chain
chain_4 true x y t h e = refl
chain_4 false true y t h e = refl
chain_4 false false true t h e = refl
chain_4 false false false t h e = rw e

chain_5 : (s x y t h : Bool) → s ≡ false → x ≡ false → y ≡ false → t ≡ true → not h ≡ chain s x y t h
unfolding chain
chain_5 s x y t h e d c b = rw (e, d, c, b)

module _ (K : Kind) (i v before n count t e : ℕ) (verts groups corners ends : List ℕ) where
  -- the five tests of edge i
  straddles_is : (O : Opening) (M : Mesh) (volumes lengths : List Float) → Straddling K O M v before n count t e verts groups corners volumes ends lengths
      → chain (element? K (row_at ends lengths i)) (stands (row_at ends lengths i).a (copies_by v before count)) (stands (row_at ends lengths i).b (copies_by v before count))
      (parted O (row_at ends lengths i).a (row_at ends lengths i).b) (held K M (row_at ends lengths i).a (row_at ends lengths i).b)
      ≡ straddles K M O (row_at ends lengths i)
  unfolding chain straddles any
  straddles_is O M volumes lengths S =
      let r = row_at ends lengths i in
      ap (λ (l : List ℕ). not (element? K r) && not (any (λ w. stands w l) (ends_of r)) && parted O r.a r.b && not (held K M r.a r.b)) (sym (copies_are O v before count S.at S.before_is S.count_is))

  -- what the program reads of edge i
  flag_is : (lengths : List Float) → (row_at ends lengths i).structural ≡ get_or ends (2 * (length ends / 4) + i) 0
  unfolding cell
  flag_is lengths = refl

  a_is : (lengths : List Float) → (row_at ends lengths i).a ≡ get_or ends i 0
  a_is lengths = col_0 0 (length ends / 4) ends i

  b_is : (lengths : List Float) → (row_at ends lengths i).b ≡ get_or ends (length ends / 4 + i) 0
  b_is lengths = col_1 0 (length ends / 4) ends i

  abbrev Told : Bool → Type 0
  Told r = StraddleTold K i v before n count t e verts groups corners ends r

  -- one whose ends are not parted, whatever else it is
  told_apart : ((O : Opening) (lengths : List Float) → Ringed (corners_per_of K) O n verts groups → parted O (row_at ends lengths i).a (row_at ends lengths i).b ≡ false) → Told false
  told_apart h = record { is = λ O M W B S. chain_4 _ _ _ _ _ (h O B S.ringed) ∙ straddles_is O M W B S }

  -- one whose first end is v
  pub told_at : get_or ends i 0 ≡ v → Told false
  told_at q =
      record { is = λ O M W B S. chain_2 _ _ _ _ _ (ap (λ (z : ℕ). stands z (copies_by v before count)) (a_is B ∙ q) ∙ sym (copy_self v v before count refl)) ∙ straddles_is O M W B S }

  -- an element
  pub told_element : (s : Bool) → ElementIs K (get_or ends (2 * (length ends / 4) + i) 0) s → s ≡ true → Told false
  told_element s E f = record { is = λ O M W B S. chain_1 _ _ _ _ _ (sym (E.is (row_at ends B i) (flag_is B)) ∙ f) ∙ straddles_is O M W B S }

  module _ (s : Bool) (E : ElementIs K (get_or ends (2 * (length ends / 4) + i) 0) s) (f : s ≡ false) (x : Bool) (X : x ≡ stands (get_or ends i 0) (copies_by v before count)) where
    none : (B : List Float) → element? K (row_at ends B i) ≡ false
    none B = sym (E.is (row_at ends B i) (flag_is B)) ∙ f

    first : (B : List Float) (u : Bool) → x ≡ u → stands (row_at ends B i).a (copies_by v before count) ≡ u
    first B u d = ap (λ (z : ℕ). stands z (copies_by v before count)) (a_is B) ∙ sym X ∙ d

    -- one that ends at a copy
    pub told_first : x ≡ true → Told false
    told_first d = record { is = λ O M W B S. chain_2 _ _ _ _ _ (first B true d) ∙ straddles_is O M W B S }

    module _ (d : x ≡ false) (y : Bool) (Y : y ≡ stands (get_or ends (length ends / 4 + i) 0) (copies_by v before count)) where
      second : (B : List Float) (u : Bool) → y ≡ u → stands (row_at ends B i).b (copies_by v before count) ≡ u
      second B u q = ap (λ (z : ℕ). stands z (copies_by v before count)) (b_is B) ∙ sym Y ∙ q

      pub told_second : y ≡ true → Told false
      told_second q = record { is = λ O M W B S. chain_3 _ _ _ _ _ (none B) (first B false d) (second B true q) ∙ straddles_is O M W B S }

      module _ (q : y ≡ false) (k : ℕ) (per : k ≡ corners_per_of K) (p : Bool) (P : Parted (get_or ends i 0) (get_or ends (length ends / 4 + i) 0) n k verts groups p) where
        apart : (O : Opening) (B : List Float) → Ringed (corners_per_of K) O n verts groups → (u : Bool) → p ≡ u → parted O (row_at ends B i).a (row_at ends B i).b ≡ u
        apart O B R u g = ap₂ (parted O) (a_is B) (b_is B) ∙ sym (P.is O (subst (λ (z : ℕ). Ringed z O n verts groups) (sym per) R)) ∙ g

        -- one whose ends are not parted
        pub told_joined : p ≡ false → Told false
        told_joined g = told_apart (λ O B R. apart O B R false g)

        -- one whose ends are parted goes unless an element holds both
        pub told_held : p ≡ true → (h : Bool) → HeldTold K (get_or ends i 0) (get_or ends (length ends / 4 + i) 0) t e corners ends h → Told (not h)
        told_held g h H =
            record {
              is =
                  λ O M W B S.
                  ap not (H.is M W B S.triangles_are S.edges_are ∙ sym (ap₂ (held K M) (a_is B) (b_is B)))
                  ∙ chain_5 _ _ _ _ _ (none B) (first B false d) (second B false q) (apart O B S.ringed true g) ∙ straddles_is O M W B S;
            }

-- what the last test of edge i asks
pub held_room : (K : Kind) (i n t e lv lg : ℕ) (corners ends links table : List ℕ) → StraddleRoom K n t e lv lg (length corners) (length ends) → i < e → EndsIn 1024 e ends → Linked K t corners links
    → EdgesLinked e ends table → HeldRoom K (get_or ends i 0) t e corners ends links table
held_room K i n t e lv lg corners ends links table S h E L D =
    record { here = subst (λ (x : ℕ). x < 1024) (col_0 0 (length ends / 4) ends i) (E.first i h); few = S.few; rows = S.corners; linked = L; edges = D }

-- ---- the near

-- the second of three tests
second_off : (s t : Bool) → s && false && t ≡ false
second_off true t = refl
second_off false t = refl

-- at the head of the loop: the first i corners are marked
pub record Nearing (m : ℕ) (verts near₀ near : List ℕ) (i : ℕ) : Type 0 where
  pub marked : NearMarked i verts near
  pub inside : i ≤ m
  pub long : length near ≡ length near₀

-- a store of 1 takes no mark away
still_marked : (near : List ℕ) (x y : ℕ) → x < length near → get_or near y 0 ≡ 1 → get_or (set near x 1) y 0 ≡ 1
still_marked near x y h e = ⊎_elim (λ w. w.1) (λ w. w.1 ∙ e) (stored near x 1 y h)

module _ (m : ℕ) (verts near₀ : List ℕ) where
  pub nearing_start : Nearing m verts near₀ near₀ 0
  nearing_start = record { marked = record { marked = λ j l. absurd (omega arith) }; inside = omega arith; long = refl }

  module _ (near : List ℕ) (i : ℕ) (G : Nearing m verts near₀ near i) (h : i < m) where
    -- a corner that has a place
    pub nearing_stored : (near' : List ℕ) → get_or verts i 0 < length near → near' ≡ set near (get_or verts i 0) 1 → Nearing m verts near₀ near' (i + 1)
    nearing_stored near' p q₀ =
        let l : length near' ≡ length near = ap length q₀ ∙ length-set near (get_or verts i 0) 1 in
        record {
          marked =
              record {
                marked =
                    below_more (λ (j : ℕ). get_or verts j 0 < length near' → get_or near' (get_or verts j 0) 0 ≡ 1) i
                    (λ j b q. ap (λ (z : List ℕ). get_or z (get_or verts j 0) 0) q₀ ∙ still_marked near (get_or verts i 0) (get_or verts j 0) p (G.marked.marked j b (omega arith)))
                    (λ q. ap (λ (z : List ℕ). get_or z (get_or verts i 0) 0) q₀ ∙ get_or-set_same near (get_or verts i 0) 1 0 p);
              };
          inside = omega arith;
          long = l ∙ G.long;
        }

    -- one that has none
    pub nearing_passed : (near' : List ℕ) → length near ≤ get_or verts i 0 → near' ≡ near → Nearing m verts near₀ near' (i + 1)
    nearing_passed near' p q₀ =
        subst (λ (z : List ℕ). Nearing m verts near₀ z (i + 1)) (sym q₀)
        (record {
          marked = record { marked = below_more (λ (j : ℕ). get_or verts j 0 < length near → get_or near (get_or verts j 0) 0 ≡ 1) i G.marked.marked (λ q. absurd (omega arith)) };
          inside = omega arith;
          long = G.long;
        })

  -- after the last corner
  pub nearing_done : (near : List ℕ) (i : ℕ) → Nearing m verts near₀ near i → m ≤ i → NearMarked m verts near
  nearing_done near i G h = record { marked = λ j l. G.marked.marked j (omega arith) }

-- a particle that is no corner stands in no ring
module _ {k n lv lg : ℕ} {verts groups : List ℕ} (room : RingRoom n k lv lg) (O : Opening) (R : Ringed k O n verts groups) (x : ℕ) (none : (j : ℕ) → j < n * k → get_or verts j 0 ≡ x → ⊥) where
  far_ring : not (empty (ring O x)) ≡ false
  far_ring =
      sym
      (ring_empty O R x
      (λ i l e.
      let w = stands_get x (take k (drop (i * k) verts)) e in
      let lt = length-take k (drop (i * k) verts) in
      let j = w.0 in
      let jk : j < k = omega (arith, w.1.0) in
      let at : get_or (take k (drop (i * k) verts)) j 0 ≡ get_or verts (i * k + j) 0 = get_or-take k (drop (i * k) verts) j 0 jk ∙ get_or-drop (i * k) verts j 0 in
      let all : RingRoom n k (n * k) n = record { few = room.few; corners = room.corners; verts = omega arith; groups = omega arith } in
      let low : i * k + j < n * k = omega (arith, row_fits all i l) in
      none (i * k + j) low (sym at ∙ w.1.1)))

  -- and is parted from none
  far_first : (y : ℕ) → parted O x y ≡ false
  unfolding parted
  far_first y = rw far_ring

  far_second : (y : ℕ) → parted O y x ≡ false
  unfolding parted
  far_second y = rw far_ring (second_off (not (empty (ring O y))) (disjoint (ring O y) (ring O x)))

-- one that is not marked as near is no corner
not_near : {m : ℕ} {verts near : List ℕ} → NearMarked m verts near → (x : ℕ) → x < length near → (get_or near x 0 ≡ 1 → ⊥) → (j : ℕ) → j < m → get_or verts j 0 ≡ x → ⊥
not_near {m} {verts} {near} N x b off j l e = off (subst (λ (z : ℕ). get_or near z 0 ≡ 1) e (N.marked j l (omega arith)))

module _ (K : Kind) (i v before n count t e : ℕ) (verts groups corners ends : List ℕ) {lv lg : ℕ} (room : RingRoom n (corners_per_of K) lv lg) where
  -- an edge whose first end is no corner, and one whose second is none
  pub told_none : ((j : ℕ) → j < n * corners_per_of K → get_or verts j 0 ≡ get_or ends i 0 → ⊥) → StraddleTold K i v before n count t e verts groups corners ends false
  told_none none =
      told_apart K i v before n count t e verts groups corners ends
      (λ O B R. far_first room O R (row_at ends B i).a (λ j l q. none j l (q ∙ col_0 0 (length ends / 4) ends i)) (row_at ends B i).b)

  told_none_second : ((j : ℕ) → j < n * corners_per_of K → get_or verts j 0 ≡ get_or ends (length ends / 4 + i) 0 → ⊥) → StraddleTold K i v before n count t e verts groups corners ends false
  told_none_second none =
      told_apart K i v before n count t e verts groups corners ends
      (λ O B R. far_second room O R (row_at ends B i).b (λ j l q. none j l (q ∙ col_1 0 (length ends / 4) ends i)) (row_at ends B i).a)

module _ (K : Kind) (i v before n count t e : ℕ) (verts groups corners ends near : List ℕ) {lv lg : ℕ} (room : RingRoom n (corners_per_of K) lv lg) (N : NearRoom K n e verts ends near) (h : i < e) where
  -- an edge whose first end is not near, and one whose second is not
  pub told_far_first : (get_or near (get_or ends i 0) 0 ≡ 1 → ⊥) → StraddleTold K i v before n count t e verts groups corners ends false
  told_far_first off =
      told_none K i v before n count t e verts groups corners ends room
      (not_near N.corners_near (get_or ends i 0) (omega (arith, N.ends_in.first i h, col_0 0 (length ends / 4) ends i, N.places)) off)

  pub told_far_second : (get_or near (get_or ends (length ends / 4 + i) 0) 0 ≡ 1 → ⊥) → StraddleTold K i v before n count t e verts groups corners ends false
  told_far_second off =
      told_none_second K i v before n count t e verts groups corners ends room
      (not_near N.corners_near (get_or ends (length ends / 4 + i) 0) (omega (arith, N.ends_in.second i h, col_1 0 (length ends / 4) ends i, N.places)) off)

-- what marking the corners of a fan of n parts asks, and what it gives
module _ (K : Kind) (n : ℕ) {k : ℕ} (per : k ≡ corners_per_of K) where
  pub corners_fit : {lv lg : ℕ} → RingRoom n (corners_per_of K) lv lg → n * k ≤ lv
  corners_fit {lv} {lg} R = subst (λ (z : ℕ). n * z ≤ lv) (sym per) R.verts

  pub near_room : {e : ℕ} {verts ends near : List ℕ} → NearMarked (n * k) verts near → EndsIn 1024 e ends → 1024 ≤ length near → NearRoom K n e verts ends near
  near_room {e} {verts} {ends} {near} N E l =
      record { corners_near = subst (λ (z : ℕ). NearMarked (n * z) verts near) per N; ends_in = E; places = l }
