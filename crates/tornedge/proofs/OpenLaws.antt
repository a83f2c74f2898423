-- Laws of trying the ways to open an edge: two sides are two groups, the way that opens, and which of two is taken. Assumes nothing.
use Prim.Native.Nat.{ℕ, ◌*◌, ◌/◌, ◌<◌, ◌≤◌}
use native.Mathlib.Omega.{arith}
use mathlib.Core.Path.{◌≡◌, refl, sym, ◌∙◌, ap, ap₂, subst}
use mathlib.Core.Bool.{Bool, true, false, ◌&&◌, and_assoc}
use mathlib.Core.List.{List, [], ◌∷◌}
use mathlib.Core.Option.{Option, none, some}
use borrow.Author.Tests.{eq-eqb, ne_eqb}
use native.Mathlib.Decide.{ℕ_discrete}
use lib.ListN.{length, get_or, take, length-take}
use lib.Seq.{get_or-take}
use lib.Dec.{eqb, ltb}
use lib.Ieee.{Float, ne}
use Rattle.lists.specs.Lists.{pick, stands, find}
use Rattle.lists.specs.Chain.{Chain, stay, ahead as onward, back}
use Rattle.lists.proofs.Sifts.{stands_get, and_true}
use Rattle.float.specs.Numbers.{zero32}
use Rattle.float.specs.Order.{total_cmp_of}
use Rattle.columns.specs.Block.{cell}
use Rattle.fan.specs.Fan.{Fan, fan, Near, size, side}
use Rattle.fan.specs.Groups.{count_of}
use Rattle.model.specs.Mesh.{Mesh}
use Rattle.model.specs.Elements.{Kind, Triangles, corners_per_of, facet_others_of, fan_of, particle}
use Rattle.model.specs.Run.{opened, Run}
use Rattle.model.specs.Split.{Opening, opening_of, splits?, split_made, split_step}
use Rattle.model.specs.Pieces.{opens_without_confetti_of}
use Rattle.model.specs.Crack.{mean_load, Way, two_sided_of, way_at, ahead, before?, in_order, ways_of, first_of, torn, crack_by, crack_pair, crack_edge}
use Rattle.model_laws.proofs.Laws.{pick_both}
use Rattle.model_laws.proofs.Splitting.{two_groups}
use Rattle.mesh.specs.At.{mesh_at}
use Rattle.mesh.specs.Log.{World, world_of}
use Rattle.mesh.specs.Given.{Lent}
use Rattle.mesh.specs.declared.Counts.{Counts}
use Rattle.mesh.specs.declared.Rooms.{Rooms}
use Rattle.mesh.specs.Filled.{lent}
use Rattle.mesh.specs.Widths.{point_columns}
use Rattle.elements.specs.Table.{TableRoom}
use Rattle.work.specs.Working.{Within, Ready, Works}
use Rattle.split.specs.Tables.{FanGrouped, FanSided, GroupsFound, opened_by}
use Rattle.links.specs.Linked.{MeshLinked}
use Rattle.split.specs.Linking.{LinkedAfter}
use Rattle.work.specs.Ran.{Ran}
use Rattle.work.proofs.Runs.{works_stay, works_as}
use Rattle.split.proofs.TabledLaws.{inverse_at, opening_found, fan_grouped, splits_so}
use Rattle.work.proofs.Placed.{particles_count}
use Rattle.tear.specs.Ways.{two_by}
use Rattle.tear.specs.Tried.{WayReady, WayRead, OpensRoom}
use Rattle.tear.specs.Pairs.{PairReady, PairBelow, PairNow, Turned}
use Rattle.tornedge.specs.Cracks.{open_way, sides_across, opens_at, Parted, opened_across, WayAsked, TriedTo, LinkedTried, EndsTold, PairTold, CrackTold}
use Rattle.tear.specs.Families.{pair_is}
use Rattle.tornedge.specs.Tried.{Tried}
use Rattle.std.specs.Prelude.{None, Some, Ok, Option as Opt}

-- ---- two sides are two groups

-- a chain of neighbours keeps to its side
chain_side : (F : Fan) {i j : ℕ} → Chain (Near F) i j → side F i ≡ side F j
chain_side F stay = refl
chain_side F (onward n c) = n.alike ∙ chain_side F c
chain_side F (back n c) = sym n.alike ∙ chain_side F c

sides_two : (F : Fan) → ((a : ℕ) → a < size F → side F a < 2) → stands 0 F.sides ≡ true → stands 1 F.sides ≡ true → 2 ≤ count_of F
sides_two F two zeros ones =
    let a = stands_get 0 F.sides zeros in
    let b = stands_get 1 F.sides ones in
    two_groups F two a.0 b.0 a.1.0 b.1.0 (λ c. let z : ◌≡◌ {A = ℕ} 0 1 = sym a.1.1 ∙ chain_side F c ∙ b.1.1 in omega arith)

-- of a fan in tables
pub groups_two : {K : Kind} {v n : ℕ} {verts sides groups : List ℕ} {count : ℕ} → GroupsFound K v n verts sides groups count → ((i : ℕ) → i < n → get_or sides i 0 < 2)
    → stands 0 (take n sides) ≡ true → stands 1 (take n sides) ≡ true → 2 ≤ count
groups_two {K} {v} {n} {verts} {sides} G two zeros ones =
    let F : Fan = fan (take (n * corners_per_of K) verts) (corners_per_of K) v (facet_others_of K) (take n sides) in
    let h = sides_two F (λ a l. let b : a < n = omega (arith, length-take n sides) in subst (λ (s : ℕ). s < 2) (sym (get_or-take n sides a 0 b)) (two a b)) zeros ones in
    omega (arith, G.count_is)

-- ---- the split of one way

module _ {K : Kind} {M : Mesh} {v n : ℕ} {numbers verts : List ℕ} {measures : List Float} {sides : List ℕ} (F : FanSided K M v n numbers verts measures sides) (two : two_sided_of M v (take n sides) ≡ true) where
  -- v is free, and both sides are there
  parts : (ne (particle M v).inv zero32 ≡ true) × ((stands 0 (take n sides) ≡ true) × (stands 1 (take n sides) ≡ true))
  unfolding two_sided_of
  parts =
      let a = and_true (ne (particle M v).inv zero32 && stands 0 (take n sides)) (stands 1 (take n sides)) two in
      let b = and_true (ne (particle M v).inv zero32) (stands 0 (take n sides)) a.0 in
      (b.0, (b.1, a.1))

  pub opens_room : (lg : ℕ) → 2048 ≤ lg → OpensRoom n (length (fan_of K M v)) lg
  opens_room lg h = record { every = F.tabled.cornered.count; groups = let f = F.few in omega arith }

  module _ {groups : List ℕ} {count : ℕ} (G : GroupsFound K v n verts sides groups count) where
    enough : 2 ≤ count
    enough = let p = parts in groups_two G F.two p.1.0 p.1.1

    pub way_grouped : 2048 ≤ length groups → FanGrouped K M v n count numbers verts measures groups
    way_grouped h = fan_grouped F G enough (let f = F.few in omega arith)

    -- v splits
    pub way_torn : {L : Rooms} {W : World} {at : Counts → World} (w : ℕ) (ab xy : ℕ × ℕ) → W.mesh ≡ M → take n sides ≡ sides_across K M v w → (r : Ran)
        → Works (split_made (opened ab.0 ab.1 ∷ []) (torn (opened_by K M v n count groups) xy) K (opened_by K M v n count groups)) L W at r → Works (opened_across K M v w ab xy) L W at r
    unfolding split_step
    way_torn {L} {W} {at} w ab xy same s r S =
        let O : Opening = opened_by K M v n count groups in
        let yes_splits : splits? O M ≡ true = splits_so F G enough parts.0 in
        subst (λ (Y : Opening). Works (split_step (opened ab.0 ab.1 ∷ []) (torn Y xy) K Y) L W at r) (opening_found F G ∙ ap (opening_of K M v) s)
        (works_as
        (λ R w.
        let m : M ≡ R.mesh = sym same ∙ ap (λ (X : World). X.mesh) w in
        sym (ap (λ (b : Bool). pick b (split_made (opened ab.0 ab.1 ∷ []) (torn O xy) K O R) R) (ap (splits? O) (sym m) ∙ yes_splits)))
        S)

-- the groups of a fan that has both sides, in a table
pub way_parted : {K : Kind} {M : Mesh} {v n : ℕ} {numbers verts : List ℕ} {measures : List Float} {sides : List ℕ} → FanSided K M v n numbers verts measures sides → (w : ℕ) → take n sides ≡ sides_across K M v w → two_sided_of M v (take n sides) ≡ true
    → {groups : List ℕ} {count : ℕ} → GroupsFound K v n verts sides groups count → 2048 ≤ length groups → Parted K v w M groups (Some (n, count))
way_parted {K} {M} {v} F w s two {groups} G h = (ap (two_sided_of M v) (sym s) ∙ two, opens_room F two (length groups) h, opening_found F G ∙ ap (opening_of K M v) s)

pub way_whole : (K : Kind) (M : Mesh) (v w : ℕ) (groups : List ℕ) {sides : List ℕ} → sides ≡ sides_across K M v w → two_sided_of M v sides ≡ false → Parted K v w M groups None
way_whole K M v w groups s one = ap (two_sided_of M v) (sym s) ∙ one

-- whether v opens, by what was told of its fan
module _ (K : Kind) (min v w : ℕ) (M : Mesh) (groups : List ℕ) (p : Opt (ℕ × ℕ)) (T : Parted K v w M groups p) where
  pub whole_shut : p ≡ None → opens_at K min M v w ≡ false
  whole_shut e = ap (λ (b : Bool). b && opens_without_confetti_of K M min (opening_of K M v (sides_across K M v w))) (subst (Parted K v w M groups) e T)

  module _ (n count : ℕ) (e : p ≡ Some (n, count)) where
    grouped : Parted K v w M groups (Some (n, count))
    grouped = subst (Parted K v w M groups) e T

    pub grouped_room : OpensRoom n (length (fan_of K M v)) (length groups)
    grouped_room = grouped.1

    pub grouped_opens : opens_without_confetti_of K M min (opened_by K M v n count groups) ≡ opens_at K min M v w
    grouped_opens =
        ap (opens_without_confetti_of K M min) grouped.2
        ∙ sym (ap (λ (b : Bool). b && opens_without_confetti_of K M min (opening_of K M v (sides_across K M v w))) grouped.0)

-- ---- one way

-- the way at v with both sides
abbrev way_of : Kind → List Float → Mesh → ℕ → ℕ → Way
way_of K ls M v w = record { load = mean_load K ls M v w; opening = opening_of K M v (sides_across K M v w) }

-- it is there exactly if its fan has both sides and v is free
way_is : (K : Kind) (ls : List Float) (M : Mesh) (v w : ℕ) → way_at K ls M v w ≡ pick (two_sided_of M v (sides_across K M v w)) (way_of K ls M v w ∷ []) []
unfolding way_at
way_is K ls M v w = refl

found_if : (P : Way → Bool) (p : Way) (t : Bool) → find P (pick t (p ∷ []) []) ≡ pick (t && P p) (some p) none
unfolding find
found_if P p true = refl
found_if P p false = refl

-- and it is taken exactly if it opens
taken_if : (K : Kind) (ls : List Float) (min : ℕ) (M : Mesh) (v w : ℕ) (t : Bool) → opens_at K min M v w ≡ t → open_way K ls min M v w ≡ pick t (some (way_of K ls M v w)) none
unfolding open_way
taken_if K ls min M v w t e =
    ap (find (λ (p : Way). opens_without_confetti_of K M min p.opening)) (way_is K ls M v w)
    ∙ found_if (λ (p : Way). opens_without_confetti_of K M min p.opening) (way_of K ls M v w) (two_sided_of M v (sides_across K M v w))
    ∙ ap (λ (b : Bool). pick b (some (way_of K ls M v w)) none) e

module _ (K : Kind) (min v w : ℕ) (ab xy : ℕ × ℕ) (L : Rooms) (k : Counts) (W : World) (at : Counts → World) where
  -- a way that does not open
  pub way_shut : opens_at K min W.mesh v w ≡ false → at k ≡ W → TriedTo K min v w ab xy L k W at None
  way_shut e u = (λ ls. taken_if K ls min W.mesh v w false e, u)

  -- one that does, and was split
  pub way_tried : (r : Ran) → opens_at K min W.mesh v w ≡ true → Works (opened_across K W.mesh v w ab xy) L W at r → TriedTo K min v w ab xy L k W at (Some r)
  unfolding crack_by
  way_tried r e S = λ ls. (way_of K ls W.mesh v w, (taken_if K ls min W.mesh v w true e, S))

-- of one that opens both sides are there
pub opens_two : (K : Kind) (min v w : ℕ) (M : Mesh) → opens_at K min M v w ≡ true → two_sided_of M v (sides_across K M v w) ≡ true
opens_two K min v w M e = (and_true (two_sided_of M v (sides_across K M v w)) (opens_without_confetti_of K M min (opening_of K M v (sides_across K M v w))) e).0

-- ---- both ends in turn

module _ (K : Kind) (min v w : ℕ) (ab xy : ℕ × ℕ) (L : Rooms) (W : World) where
  -- the two ways in a run
  abbrev in_turn : List Float → Mesh → Option Way
  in_turn ls M = first_of (open_way K ls min M v w) (open_way K ls min M w v)

  -- a worker that cracks by what is taken in the blocks
  taken_works : (at : Counts → World) (r : Ran) (o : List Float → Option Way) → ((ls : List Float) → in_turn ls W.mesh ≡ o ls) → ((ls : List Float) → Works (crack_by K (o ls) ab xy) L W at r) → EndsTold K min v w ab xy L W at r
  taken_works at r o e F =
      record { works = λ ls. works_as (λ R u. ap (λ (z : Option Way). crack_by K z ab xy R) (sym (e ls) ∙ ap (λ (X : World). in_turn ls X.mesh) u)) (F ls) }

  -- the first opens
  pub first_taken : (k : Counts) (at : Counts → World) (t : Tried) (r : Ran) → t ≡ Some r → TriedTo K min v w ab xy L k W at t → EndsTold K min v w ab xy L W at r
  first_taken k at t r e T =
      let S : TriedTo K min v w ab xy L k W at (Some r) = subst (TriedTo K min v w ab xy L k W at) e T in
      taken_works at r (λ ls. some (S ls).0) (λ ls. ap (λ (z : Option Way). first_of z (open_way K ls min W.mesh w v)) (S ls).1.0) (λ ls. (S ls).1.1)

  module _ (k : Counts) (at : Counts → World) (t : Tried) (e : t ≡ None) (T : TriedTo K min v w ab xy L k W at t) where
    shut : TriedTo K min v w ab xy L k W at None
    shut = subst (TriedTo K min v w ab xy L k W at) e T

    -- the blocks hold what they held
    pub still : at k ≡ W
    still = shut.1

    pub still_ready : (I J : Lent) → Ready L k I W.mesh → J ≡ I → Ready L k J (at k).mesh
    still_ready I J P q =
        subst (λ (X : World). Ready L k J X.mesh) (sym still) (subst (λ (Z : Lent). Ready L k Z W.mesh) (sym q) P)

    -- the second as if tried in the blocks at the start
    second_tried : (at' : Counts → World) (s : Tried) → TriedTo K min w v ab xy L k (at k) at' s → TriedTo K min w v ab xy L k W at' s
    second_tried at' s S = subst (λ (X : World). TriedTo K min w v ab xy L k X at' s) still S

    -- the second opens
    pub second_taken : (at' : Counts → World) (s : Tried) (r : Ran) → s ≡ Some r → TriedTo K min w v ab xy L k (at k) at' s → EndsTold K min v w ab xy L W at' r
    second_taken at' s r q U =
        let S : TriedTo K min w v ab xy L k W at' (Some r) = subst (TriedTo K min w v ab xy L k W at') q (second_tried at' s U) in
        taken_works at' r (λ ls. some (S ls).0) (λ ls. ap₂ (λ (y z : Option Way). first_of y z) (shut.0 ls) (S ls).1.0) (λ ls. (S ls).1.1)

    -- neither does
    pub none_taken : (at' : Counts → World) (s : Tried) → s ≡ None → TriedTo K min w v ab xy L k (at k) at' s → Within k L → EndsTold K min v w ab xy L W at' (Ok k)
    unfolding crack_by
    none_taken at' s q U b =
        let S : TriedTo K min w v ab xy L k W at' None = subst (TriedTo K min w v ab xy L k W at') q (second_tried at' s U) in
        taken_works at' (Ok k) (λ ls. none) (λ ls. ap₂ (λ (y z : Option Way). first_of y z) (shut.0 ls) (S.0 ls))
        (λ ls. subst (λ (X : World). Works (λ R. R) L X at' (Ok k)) S.1 (works_stay {at = at'} k b))

-- the tables behind a way that opened, and behind one that did not
pub linked_torn : (K : Kind) (t e b : ℕ) (corners ends outline links : List ℕ) (s : Tried) (r : Ran) → s ≡ Some r → LinkedTried K t e b corners ends outline links s → LinkedAfter K corners ends outline links r
linked_torn K t e b corners ends outline links s r q X = subst (LinkedTried K t e b corners ends outline links) q X

pub linked_shut : (K : Kind) (t e b : ℕ) (corners ends outline links : List ℕ) (s : Tried) → s ≡ None → LinkedTried K t e b corners ends outline links s → MeshLinked K t e b corners ends outline links
linked_shut K t e b corners ends outline links s q X = subst (LinkedTried K t e b corners ends outline links) q X

-- ---- their order

-- of two ways in a row
in_row : (P : Way → Bool) (p q : Way) → find P (p ∷ q ∷ []) ≡ first_of (find P (p ∷ [])) (find P (q ∷ []))
unfolding find
in_row P p q = by (P p) (pick (P q) (some q) none)
  where
    by : (b : Bool) (o : Option Way) → pick b (some p) o ≡ first_of (pick b (some p) none) o
    by true o = refl
    by false o = refl

first_alone : (o : Option Way) → first_of o none ≡ o
first_alone none = refl
first_alone (some a) = refl

pick_same : {A : Type 0} (b : Bool) (x y z : A) → x ≡ y → x ≡ z → x ≡ pick b y z
pick_same true x y z e f = e
pick_same false x y z e f = f

-- of at most one way from each end the one taken is the first of those that pass, in order; where one end has none the order is no matter
order_first : (P : Way → Bool) (p q : Way) (s t : Bool)
    → find P (in_order (pick s (p ∷ []) []) (pick t (q ∷ []) []))
    ≡ pick (before? q p) (first_of (find P (pick t (q ∷ []) [])) (find P (pick s (p ∷ []) []))) (first_of (find P (pick s (p ∷ []) [])) (find P (pick t (q ∷ []) [])))
unfolding find
order_first P p q true true = pick_ap (before? q p) ∙ ap₂ (λ (x y : Option Way). pick (before? q p) x y) (in_row P q p) (in_row P p q)
  where
    pick_ap : (b : Bool) → find P (pick b (q ∷ p ∷ []) (p ∷ q ∷ [])) ≡ pick b (find P (q ∷ p ∷ [])) (find P (p ∷ q ∷ []))
    pick_ap true = refl
    pick_ap false = refl
order_first P p q true false = pick_same (before? q p) (find P (p ∷ [])) (find P (p ∷ [])) (first_of (find P (p ∷ [])) none) refl (sym (first_alone (find P (p ∷ []))))
order_first P p q false true = pick_same (before? q p) (find P (q ∷ [])) (first_of (find P (q ∷ [])) none) (find P (q ∷ [])) (sym (first_alone (find P (q ∷ [])))) refl
order_first P p q false false = pick_same {A = Option Way} (before? q p) none none none refl refl

-- the ways of an edge, by their loads
order_taken : (K : Kind) (ls : List Float) (min : ℕ) (M : Mesh) (x y : ℕ) (t : Bool) → t ≡ ahead (total_cmp_of (mean_load K ls M y x) (mean_load K ls M x y)) (ltb y x)
    → find (λ (z : Way). opens_without_confetti_of K M min z.opening) (ways_of K ls M (x, y))
    ≡ pick t (first_of (open_way K ls min M y x) (open_way K ls min M x y)) (first_of (open_way K ls min M x y) (open_way K ls min M y x))
unfolding ways_of way_at open_way opening_of
order_taken K ls min M x y t e =
    let F : Way → Bool = λ (z : Way). opens_without_confetti_of K M min z.opening in
    order_first F (way_of K ls M x y) (way_of K ls M y x) (two_sided_of M x (sides_across K M x y)) (two_sided_of M y (sides_across K M y x))
    ∙ ap (λ (b : Bool). pick b (first_of (find F (way_at K ls M y x)) (find F (way_at K ls M x y))) (first_of (find F (way_at K ls M x y)) (find F (way_at K ls M y x)))) (sym e)

module _ (K : Kind) (min x y : ℕ) (ab : ℕ × ℕ) (loads : List Float) (k : Counts) (L : Rooms) (W : World) (t : Bool) (N : Turned K x y k.triangles loads W.mesh t) (at : Counts → World) (r : Ran) where
  -- what is cracked by
  taken_is : (b : Bool) → t ≡ b → (ls : List Float) → (K ≡ Triangles → take k.triangles loads ≡ ls) → (R : Run) → W ≡ world_of R.mesh R.log
      → crack_by K (pick b (first_of (open_way K ls min R.mesh y x) (open_way K ls min R.mesh x y)) (first_of (open_way K ls min R.mesh x y) (open_way K ls min R.mesh y x))) ab (x, y) R ≡ crack_pair K ls min ab (some (x, y)) R
  unfolding crack_pair
  taken_is b e ls h R u =
      let m : W.mesh ≡ R.mesh = ap (λ (Z : World). Z.mesh) u in
      ap (λ (z : Option Way). crack_by K z ab (x, y) R)
      (sym (order_taken K ls min R.mesh x y b (sym e ∙ N.is ls h ∙ ap (λ (M : Mesh). ahead (total_cmp_of (mean_load K ls M y x) (mean_load K ls M x y)) (ltb y x)) m)))

  -- y goes first, or x does
  in_turn_lem : (b : Bool) → t ≡ b → EndsTold K min (pick b y x) (pick b x y) ab (x, y) L W at r → PairTold K min k.triangles ab (x, y) loads L W at r
  in_turn_lem true e E = record { works = λ ls h. works_as (λ R u. taken_is true e ls h R u) (E.works ls) }
  in_turn_lem false e E = record { works = λ ls h. works_as (λ R u. taken_is false e ls h R u) (E.works ls) }

  pub pair_turned : (v w : ℕ) → v ≡ pick t y x → w ≡ pick t x y → EndsTold K min v w ab (x, y) L W at r → PairTold K min k.triangles ab (x, y) loads L W at r
  pair_turned v w f g E = in_turn_lem t refl (subst (λ (z : ℕ). EndsTold K min (pick t y x) z ab (x, y) L W at r) g (subst (λ (z : ℕ). EndsTold K min z w ab (x, y) L W at r) f E))

-- ---- one edge

module _ (K : Kind) (min a b p t : ℕ) (loads : List Float) (L : Rooms) (W : World) (r : Opt (ℕ × ℕ)) (N : PairNow K a b p W r) where
  -- no pair stands for it
  pub edge_gone : (at : Counts → World) (k : Counts) → at k ≡ W → Within k L → r ≡ None → CrackTold K min a b t loads L W at (Ok k)
  unfolding crack_edge crack_pair
  edge_gone at k s w e =
      record {
        works = λ ls h.
            subst (λ (Z : World). Works (λ R. crack_edge K ls min R (a, b)) L Z at (Ok k)) s
            (works_as (λ R u. ap (λ (z : Option (ℕ × ℕ)). crack_pair K ls min (a, b) z R) (ap pair_is (sym e) ∙ N.is R (sym s ∙ u))) (works_stay {at = at} k w));
      }

  module _ (x y : ℕ) (e : r ≡ Some (x, y)) where
    pub edge_below : (x < p) × (y < p)
    edge_below = subst (PairBelow p) e N.below

    pub edge_cracked : (at : Counts → World) (s : Ran) → PairTold K min t (a, b) (x, y) loads L W at s → CrackTold K min a b t loads L W at s
    unfolding crack_edge
    edge_cracked at s T =
        record { works = λ ls h. works_as (λ R u. ap (λ (z : Option (ℕ × ℕ)). crack_pair K ls min (a, b) z R) (ap pair_is (sym e) ∙ N.is R u)) (T.works ls h) }

-- ---- over the blocks

-- both ends of a pair that is there may be tried
pub asked_first : (x y a b p : ℕ) → a < 1024 → b < 1024 → x < p → y < p → WayAsked x y x y a b p
asked_first x y a b p i j h g = record { here = h; ends = record { a_few = i; b_few = j; x_in = h; y_in = g; other = sym (ap (λ (b : Bool). pick b y x) (eq-eqb x x refl)) } }

pub asked_second : (x y a b p : ℕ) → a < 1024 → b < 1024 → x < p → y < p → WayAsked y x x y a b p
asked_second x y a b p i j h g = record { here = g; ends = record { a_few = i; b_few = j; x_in = h; y_in = g; other = by (ℕ_discrete y x) } }
  where
    by : Dec (y ≡ x) → x ≡ pick (eqb y x) y x
    by (yes e) = sym e ∙ sym (ap (λ (b : Bool). pick b y x) (eq-eqb y x e))
    by (no n) = sym (ap (λ (b : Bool). pick b y x) (ne_eqb y x n))

-- what was chosen, by either arm
pub chosen_first : (t : Bool) (v a b : ℕ) → t ≡ true → v ≡ a → v ≡ pick t a b
chosen_first t v a b e h = h ∙ ap (λ (s : Bool). pick s a b) (sym e)

pub chosen_second : (t : Bool) (v a b : ℕ) → t ≡ false → v ≡ b → v ≡ pick t a b
chosen_second t v a b e h = h ∙ ap (λ (s : Bool). pick s a b) (sym e)

-- both in the order of a test
asked_both : (t : Bool) (x y a b p : ℕ) → a < 1024 → b < 1024 → x < p → y < p → WayAsked (pick t y x) (pick t x y) x y a b p × WayAsked (pick t x y) (pick t y x) x y a b p
asked_both true x y a b p i j h g = (asked_second x y a b p i j h g, asked_first x y a b p i j h g)
asked_both false x y a b p i j h g = (asked_first x y a b p i j h g, asked_second x y a b p i j h g)

pub asked_turned : (t : Bool) (x y a b p v w : ℕ) → v ≡ pick t y x → w ≡ pick t x y → a < 1024 → b < 1024 → x < p → y < p → WayAsked v w x y a b p × WayAsked w v x y a b p
asked_turned t x y a b p v w e f i j h g =
    subst (λ (z : ℕ). WayAsked v z x y a b p × WayAsked z v x y a b p) (sym f)
    (subst (λ (z : ℕ). WayAsked z (pick t x y) x y a b p × WayAsked (pick t x y) z x y a b p) (sym e) (asked_both t x y a b p i j h g))

-- a table of 2,048 elements has room for those of a mesh
few_room : (t e lc lv le ll : ℕ) → t ≤ 1024 → e ≤ 2048 → t ≤ lc / 3 → t ≤ lv / 2 → e ≤ le / 4 → e ≤ ll / 4 → TableRoom t e lc lv le ll 2048 4096 2048
few_room t e lc lv le ll a b c d f g = record { few = (a, b); corners = c; volumes = d; ends = f; lengths = g; numbers = (omega arith, b); verts = (omega arith, omega arith); measures = (omega arith, b) }

module _ (L : Rooms) (k : Counts) (points : List Float) (roots corners : List ℕ) (volumes : List Float) (ends : List ℕ) (lengths : List Float) (outline log : List ℕ)
    (P : Ready L k (lent points roots corners volumes ends lengths outline log) (mesh_at k points roots corners volumes ends lengths outline)) where
  abbrev Here : Mesh
  Here = mesh_at k points roots corners volumes ends lengths outline

  -- what a table of all elements asks
  pub table_room : TableRoom k.triangles k.edges (length corners) (length volumes) (length ends) (length lengths) 2048 4096 2048
  table_room =
      let R = P.rooms in
      let C = P.counts in
      few_room k.triangles k.edges (length corners) (length volumes) (length ends) (length lengths) (omega (arith, C.triangles, R.few_triangles)) (omega (arith, C.edges, R.few_edges)) (omega (arith, C.triangles, R.corners)) (omega (arith, C.triangles, R.volumes))
      (omega (arith, C.edges, R.ends)) (omega (arith, C.edges, R.lengths))

  pub pair_ready : PairReady k (length corners) (length volumes) (length ends) (length lengths) (length log) Here
  pair_ready =
      let R = P.rooms in
      let C = P.counts in
      record { table = table_room; log = omega (arith, C.log, R.log); few_log = omega (arith, C.log, R.few_log); indices = P.indices }

  -- what one way asks
  pub way_ready : (v w : ℕ) → v < k.particles → w < k.particles → WayReady v w k (length points) (length corners) (length volumes) (length ends) (length lengths) Here
  way_ready v w h g =
      let R = P.rooms in
      let C = P.counts in
      let T = table_room in
      record {
        v_in = h;
        w_in = g;
        few_particles = omega (arith, C.particles, R.few_particles);
        few_triangles = T.few.0;
        few_edges = T.few.1;
        points = omega (arith, C.particles, R.points);
        corners = T.corners;
        volumes = T.volumes;
        ends = T.ends;
        lengths = T.lengths;
        indices = P.indices;
      }

  -- what a way that is asked for asks
  pub asked_ready : {v w x y a b : ℕ} → WayAsked v w x y a b k.particles → WayReady v w k (length points) (length corners) (length volumes) (length ends) (length lengths) Here
  asked_ready {v} {w} {x} {y} A =
      way_ready v w A.here (subst (λ (z : ℕ). z < k.particles) (sym A.ends.other) (pick_both (λ (z : ℕ). z < k.particles) (eqb v x) y x A.ends.y_in A.ends.x_in))

-- ---- where a way is ready

module _ (k : Counts) (points : List Float) (roots corners : List ℕ) (volumes : List Float) (ends : List ℕ) (lengths : List Float) (outline : List ℕ) {v w : ℕ}
    (A : WayReady v w k (length points) (length corners) (length volumes) (length ends) (length lengths) (mesh_at k points roots corners volumes ends lengths outline)) where
  abbrev There : Mesh
  There = mesh_at k points roots corners volumes ends lengths outline

  pub place_in : v < length points / point_columns
  place_in = omega (arith, A.v_in, A.points)

  -- a table of all elements has room
  pub elements_room : TableRoom k.triangles k.edges (length corners) (length volumes) (length ends) (length lengths) 2048 4096 2048
  elements_room = few_room k.triangles k.edges (length corners) (length volumes) (length ends) (length lengths) A.few_triangles A.few_edges A.corners A.volumes A.ends A.lengths

  -- whether both sides are there and v is free
  pub two_told : (sides : List ℕ) → two_sided_of There v sides ≡ two_by v sides points
  unfolding two_sided_of two_by cell
  two_told sides =
      and_assoc (ne (particle There v).inv zero32) (stands 0 sides) (stands 1 sides)
      ∙ ap (λ (z : Float). ne z zero32 && (stands 0 sides && stands 1 sides)) (inverse_at k points roots corners volumes ends lengths outline v A.v_in)

  -- the fan with its sides
  pub way_sided : {K : Kind} {n : ℕ} {numbers verts : List ℕ} {measures : List Float} {sides : List ℕ} → WayRead K v w There n numbers verts measures sides
      → 2048 ≤ length numbers → 4096 ≤ length verts → 2048 ≤ length measures → 2048 ≤ length sides → FanSided K There v n numbers verts measures sides
  way_sided F a b c d =
      let few = F.few in
      let narrow = F.narrow in
      record {
        here = subst (λ (z : ℕ). v < z) (sym (particles_count k points roots corners volumes ends lengths outline)) A.v_in;
        tabled = F.tabled;
        few = few;
        numbers_long = omega arith;
        verts_long = omega arith;
        measures_long = omega arith;
        sides_long = omega arith;
        two = F.two;
      }
