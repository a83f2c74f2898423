-- The three tables of a call stand one behind the other in one list: each is changed in its own part, and the others stay. Assumes nothing.
use Prim.Native.Nat.{ℕ, ◌+◌, ◌*◌, ◌-◌, ◌/◌, ◌≤◌, ◌<◌}
use native.Mathlib.Nat.{div-add-mod', mul-le-mul_right}
use native.Mathlib.Omega.{arith}
use mathlib.Core.Path.{◌≡◌, sym, ap, ◌∙◌, subst}
use mathlib.Core.List.{List, ◌++◌}
use lib.ListN.{length, get_or, take, drop, replicate, length-take, length-drop, length-append, length-replicate, get_or-replicate, get_or-append, get_or-eq_default}
use native.Mathlib.Decide.{dec_lt}
use lib.Seq.{length-take-le, get_or-take, get_or-drop, get_or-append-add, drop_at, drop-drop}
use borrow.Rule.Slice.PartMut.{mid_of, post_of, put_mid, same_len_mid, drop_put}
use Rattle.columns.specs.Block.{cell}
use Rattle.model.specs.Elements.{Kind}
use Rattle.links.specs.Links.{LinksOf}
use Rattle.links.specs.Rooms.{BuildRoom, Cleared}
use Rattle.links.specs.Linked.{Linked, PairsLinked, PairsLinkable, EdgesLinked, SidesLinked, FrontLinked, MeshLinked}

-- ---- a list of which a part was lent

-- behind a list of a places
get_d_behind : (p q : List ℕ) (a i : ℕ) → length p ≡ a → get_or (p ++ q) (a + i) 0 ≡ get_or q i 0
get_d_behind p q a i e = ap (λ (n : ℕ). get_or (p ++ q) (n + i) 0) (sym e) ∙ get_or-append-add p q i 0

-- what is cleared has 0 wherever it is read, and so have its parts
cleared_at : {l : List ℕ} → Cleared l → (i : ℕ) → get_or l i 0 ≡ 0
cleared_at {l} C i =
    elim (dec_lt i (length l)) [
      | yes h ↦ C.zero_at i h
      | no h ↦ get_or-eq_default l 0 (omega (arith, h))
    ]

pub cleared_take : {l : List ℕ} (a : ℕ) → Cleared l → Cleared (take a l)
cleared_take {l} a C = record { zero_at = λ i h. get_or-take a l i 0 (let n = length-take a l in omega arith) ∙ cleared_at C i }

cleared_drop : {l : List ℕ} (a : ℕ) → Cleared l → Cleared (drop a l)
cleared_drop {l} a C = record { zero_at = λ i h. get_or-drop a l i 0 ∙ cleared_at C (a + i) }

-- a fresh table is cleared
pub cleared_fresh : (n : ℕ) → Cleared (replicate n 0)
cleared_fresh n = record { zero_at = λ i h. get_or-replicate n i 0 0 (let e = length-replicate {A = ℕ} n 0 in omega arith) }

-- the first a places were lent, and came back as x
module _ (a : ℕ) (l x : List ℕ) (e : length x ≡ a) where
  front_at : (i : ℕ) → i < a → get_or (x ++ drop a l) i 0 ≡ get_or x i 0
  front_at i h = get_or-append x (drop a l) 0 i (rw e h)

  front_long : a ≤ length l → length (x ++ drop a l) ≡ length l
  front_long f = let w : length (x ++ drop a l) ≡ length x + length (drop a l) = length-append x (drop a l) in omega (arith, w, e, length-drop a l)

-- the m places from a on
module _ (a m : ℕ) (l : List ℕ) (fits : a + m ≤ length l) where
  mid_long : length (mid_of a m l) ≡ m
  mid_long = let n = length-drop a l in length-take-le m (drop a l) (omega arith)

  mid_at : (i : ℕ) → i < m → get_or (mid_of a m l) i 0 ≡ get_or (drop a l) i 0
  mid_at i h = get_or-take m (drop a l) i 0 h

  -- they were lent, and came back as x
  module _ (x : List ℕ) (e : length x ≡ m) where
    before : length (take a l) ≡ a
    before = length-take-le a l (omega arith)

    put_before : (i : ℕ) → i < a → get_or (put_mid a m l x) i 0 ≡ get_or l i 0
    put_before i h =
        let b : length (take a l) ≡ a = before in
        get_or-append (take a l) (x ++ post_of a m l) 0 i (rw b h) ∙ get_or-take a l i 0 h

    put_within : (i : ℕ) → i < m → get_or (put_mid a m l x) (a + i) 0 ≡ get_or x i 0
    put_within i h = get_d_behind (take a l) (x ++ post_of a m l) a i before ∙ get_or-append x (post_of a m l) 0 i (rw e h)

    put_long : length (put_mid a m l x) ≡ length l
    put_long = same_len_mid a m l x (e ∙ sym mid_long)

-- ---- a table reads nothing behind its places

pub linked_near : {K : Kind} {t : ℕ} {C l l' : List ℕ} → Linked K t C l → 4096 ≤ length l' → ((i : ℕ) → i < 4096 → get_or l' i 0 ≡ get_or l i 0) → Linked K t C l'
linked_near L long same =
    record {
      long = λ e. long;
      are =
          λ e.
          let T = L.are e in
          record {
            heads = λ v h. same v (omega arith) ∙ T.heads v h;
            links = λ c i h m. same _ (omega arith) ∙ T.links c i h m;
          };
    }

pub pairs_near : {w n : ℕ} {B l l' : List ℕ} → PairsLinked w n B l → 5120 ≤ length l' → ((i : ℕ) → i < 5120 → get_or l' i 0 ≡ get_or l i 0) → PairsLinked w n B l'
pairs_near L long same =
    record {
      long = long;
      few = L.few;
      rows = L.rows;
      are =
          record {
            heads = λ v h. same v (omega arith) ∙ L.are.heads v h;
            links = λ c i h m. same _ (omega arith) ∙ L.are.links c i h m;
          };
      apart = L.apart;
    }

-- three tables, each at its place
mesh_from : {K : Kind} {t e b : ℕ} {C E B T U S : List ℕ} (l : List ℕ) → 14336 ≤ length l
    → Linked K t C T → ((i : ℕ) → i < 4096 → get_or l i 0 ≡ get_or T i 0)
    → EdgesLinked e E U → ((i : ℕ) → i < 5120 → get_or l (4096 + i) 0 ≡ get_or U i 0)
    → SidesLinked b B S → ((i : ℕ) → i < 5120 → get_or l (9216 + i) 0 ≡ get_or S i 0) → MeshLinked K t e b C E B l
mesh_from l long X x Y y Z z =
    record {
      long = long;
      triangles = linked_near X (omega arith) x;
      edges = pairs_near Y (omega (arith, length-drop 4096 l)) (λ i h. get_or-drop 4096 l i 0 ∙ y i h);
      sides = pairs_near Z (omega (arith, length-drop 9216 l)) (λ i h. get_or-drop 9216 l i 0 ∙ z i h);
    }

-- ---- a part of the front lent, and given back as another: the boundary's part stays

module _ {K : Kind} {t e : ℕ} {C E l : List ℕ} (M : FrontLinked K t e C E l) where
  edge_fits : 4096 + 5120 ≤ length l
  edge_fits = omega (arith, M.long)

  -- the triangles' table, as it is lent
  pub triangles_lent : Linked K t C (take 4096 l)
  triangles_lent =
      let n : length (take 4096 l) ≡ 4096 = length-take-le 4096 l (omega (arith, M.long)) in
      linked_near M.triangles (omega (arith, n)) (λ i h. get_or-take 4096 l i 0 h)

  -- and the edges', to be changed or, with all that is behind it, to be read
  pub edges_lent : EdgesLinked e E (mid_of 4096 5120 l)
  edges_lent = pairs_near M.edges (omega (arith, mid_long 4096 5120 l edge_fits)) (mid_at 4096 5120 l edge_fits)

  pub edges_read : EdgesLinked e E (mid_of 4096 (length l - 4096) l)
  edges_read =
      let f : 4096 + (length l - 4096) ≤ length l = omega (arith, M.long) in
      pairs_near M.edges (omega (arith, mid_long 4096 (length l - 4096) l f, M.long)) (λ i h. mid_at 4096 (length l - 4096) l f i (omega (arith, M.long)))

  -- with another table of the triangles
  pub triangles_back : {C' x : List ℕ} → length x ≡ 4096 → Linked K t C' x → FrontLinked K t e C' E (x ++ drop 4096 l) × (drop 9216 (x ++ drop 4096 l) ≡ drop 9216 l)
  triangles_back {C'} {x} n X =
      let w : length (x ++ drop 4096 l) ≡ length l = front_long 4096 l x n (omega (arith, M.long)) in
      let r : drop 4096 (x ++ drop 4096 l) ≡ drop 4096 l = drop_at x (drop 4096 l) 4096 n in (
        record {
          long = omega (arith, w, M.long);
          triangles = linked_near X (omega (arith, w, M.long)) (front_at 4096 l x n);
          edges = subst (λ (z : List ℕ). EdgesLinked e E z) (sym r) M.edges;
        },
        sym (drop-drop 5120 4096 (x ++ drop 4096 l)) ∙ ap (drop 5120) r ∙ drop-drop 5120 4096 l,
      )

  -- of the edges
  pub edges_back : {e' : ℕ} {E' x : List ℕ} → length x ≡ length (mid_of 4096 5120 l) → EdgesLinked e' E' x
      → FrontLinked K t e' C E' (put_mid 4096 5120 l x) × (drop 9216 (put_mid 4096 5120 l x) ≡ drop 9216 l)
  edges_back {e'} {E'} {x} n X =
      let m : length x ≡ 5120 = n ∙ mid_long 4096 5120 l edge_fits in
      let w : length (put_mid 4096 5120 l x) ≡ length l = put_long 4096 5120 l edge_fits x m in (
        record {
          long = omega (arith, w, M.long);
          triangles = linked_near M.triangles (omega (arith, w, M.long)) (put_before 4096 5120 l edge_fits x m);
          edges = pairs_near X (omega (arith, w, M.long, length-drop 4096 (put_mid 4096 5120 l x))) (λ i h. get_or-drop 4096 (put_mid 4096 5120 l x) i 0 ∙ put_within 4096 5120 l edge_fits x m i h);
        },
        drop_put 4096 9216 l x (omega arith) (omega (arith, M.long)) m,
      )

-- ---- the front, and the boundary's part behind it

pub with_sides : {K : Kind} {t e b : ℕ} {C E B l' : List ℕ} (l : List ℕ) → FrontLinked K t e C E l' → drop 9216 l' ≡ drop 9216 l → SidesLinked b B (drop 9216 l) → MeshLinked K t e b C E B l'
with_sides {b = b} {B = B} l F q S =
    record { long = F.long; triangles = F.triangles; edges = F.edges; sides = subst (λ (z : List ℕ). SidesLinked b B z) (sym q) S }

module _ {K : Kind} {t e b : ℕ} {C E B l : List ℕ} (M : MeshLinked K t e b C E B l) where
  pub front_of : FrontLinked K t e C E l
  front_of = record { long = M.long; triangles = M.triangles; edges = M.edges }

  side_fits : 9216 + (length l - 9216) ≤ length l
  side_fits = omega (arith, M.long)

  -- the boundary's table, as it is lent
  pub sides_lent : SidesLinked b B (mid_of 9216 (length l - 9216) l)
  sides_lent =
      pairs_near M.sides (omega (arith, mid_long 9216 (length l - 9216) l side_fits, M.long)) (λ i h. mid_at 9216 (length l - 9216) l side_fits i (omega (arith, M.long)))

  -- with another table of the boundary
  pub sides_back : {b' : ℕ} {B' x : List ℕ} → length x ≡ length (mid_of 9216 (length l - 9216) l) → SidesLinked b' B' x
      → MeshLinked K t e b' C E B' (put_mid 9216 (length l - 9216) l x)
  sides_back {b'} {B'} {x} n X =
      let m : length x ≡ length l - 9216 = n ∙ mid_long 9216 (length l - 9216) l side_fits in
      let was : (i : ℕ) → i < 9216 → get_or (put_mid 9216 (length l - 9216) l x) i 0 ≡ get_or l i 0 = put_before 9216 (length l - 9216) l side_fits x m in
      mesh_from (put_mid 9216 (length l - 9216) l x) (omega (arith, put_long 9216 (length l - 9216) l side_fits x m, M.long)) M.triangles (λ i h. was i (omega arith))
      M.edges (λ i h. was (4096 + i) (omega arith) ∙ sym (get_or-drop 4096 l i 0)) X (λ i h. put_within 9216 (length l - 9216) l side_fits x m i (omega (arith, M.long)))

-- ---- all three built, one after the other

-- two of w columns lie within the block
pub two_columns : {w : ℕ} (B : List ℕ) → 2 ≤ w → 2 * (length B / w) ≤ length B
two_columns {w} B two =
    let q = div-add-mod' (length B) w in
    let m : 2 * (length B / w) ≤ w * (length B / w) = mul-le-mul_right _ two in
    omega arith

-- the room of a table of pairs
pub pairs_room : {w n : ℕ} {B : List ℕ} {lt : ℕ} → 2 ≤ w → PairsLinkable w n B lt → BuildRoom 1024 2 2048 (length B / w) n B lt
pairs_room {w} {n} {B} two P =
    record {
      room = record { cells = P.few; rows = P.rows; columns = two_columns B two; table = P.long; small = omega (arith, P.few) };
      apart = P.apart;
    }

pub pairs_built : {w n : ℕ} {B : List ℕ} {lt : ℕ} {table : List ℕ} → PairsLinkable w n B lt → length table ≡ lt → LinksOf 1024 2 2048 n (cell 0 (length B / w) B) table → PairsLinked w n B table
pairs_built P long L = record { long = omega (arith, long, P.long); few = P.few; rows = P.rows; are = L; apart = P.apart }

-- in a list of so many places
pairs_within : {w n : ℕ} {B : List ℕ} {lt : ℕ} → PairsLinkable w n B 5120 → 5120 ≤ lt → PairsLinkable w n B lt
pairs_within P h = record { long = h; few = P.few; rows = P.rows; apart = P.apart }

module _ (l x : List ℕ) (long : 14336 ≤ length l) (n : length x ≡ 4096) where
  abbrev l₁ : List ℕ
  l₁ = x ++ drop 4096 l

  first_long : length l₁ ≡ length l
  first_long = front_long 4096 l x n (omega arith)

  edge_room : 4096 + 5120 ≤ length l₁
  edge_room = omega (arith, first_long)

  -- the second is as cleared as it was
  pub cleared_second : Cleared l → Cleared (mid_of 4096 5120 l₁)
  cleared_second C = subst (λ (s : List ℕ). Cleared (take 5120 s)) (sym (drop_at x (drop 4096 l) 4096 n)) (cleared_take 5120 (cleared_drop 4096 C))

  -- the second has room
  pub room_second : {e : ℕ} {E : List ℕ} → PairsLinkable 4 e E 5120 → PairsLinkable 4 e E (length (mid_of 4096 5120 l₁))
  room_second P = pairs_within P (omega (arith, mid_long 4096 5120 l₁ edge_room))

  module _ (y : List ℕ) (m : length y ≡ length (mid_of 4096 5120 l₁)) where
    abbrev l₂ : List ℕ
    l₂ = put_mid 4096 5120 l₁ y

    wide : length y ≡ 5120
    wide = m ∙ mid_long 4096 5120 l₁ edge_room

    second_long : length l₂ ≡ length l
    second_long = put_long 4096 5120 l₁ edge_room y wide ∙ first_long

    side_room : 9216 + (length l₂ - 9216) ≤ length l₂
    side_room = omega (arith, second_long)

    -- and so has the third
    pub cleared_third : Cleared l → Cleared (mid_of 9216 (length l₂ - 9216) l₂)
    cleared_third C =
        cleared_take (length l₂ - 9216)
        (subst Cleared (sym (drop_put 4096 9216 l₁ y (omega arith) (omega (arith, first_long)) wide ∙ sym (drop-drop 5120 4096 l₁) ∙ ap (drop 5120) (drop_at x (drop 4096 l) 4096 n))) (cleared_drop 5120 (cleared_drop 4096 C)))

    pub room_third : {b : ℕ} {B : List ℕ} → PairsLinkable 2 b B 5120 → PairsLinkable 2 b B (length (mid_of 9216 (length l₂ - 9216) l₂))
    room_third P = pairs_within P (omega (arith, mid_long 9216 (length l₂ - 9216) l₂ side_room, second_long))

    module _ (z : List ℕ) (k : length z ≡ length (mid_of 9216 (length l₂ - 9216) l₂)) where
      tail : length z ≡ length l₂ - 9216
      tail = k ∙ mid_long 9216 (length l₂ - 9216) l₂ side_room

      pub all_long : length (put_mid 9216 (length l₂ - 9216) l₂ z) ≡ length l
      all_long = put_long 9216 (length l₂ - 9216) l₂ side_room z tail ∙ second_long

      pub all_built : {K : Kind} {t e b : ℕ} {C E B : List ℕ} → Linked K t C x → EdgesLinked e E y → SidesLinked b B z → MeshLinked K t e b C E B (put_mid 9216 (length l₂ - 9216) l₂ z)
      all_built X Y Z =
          let was : (i : ℕ) → i < 9216 → get_or (put_mid 9216 (length l₂ - 9216) l₂ z) i 0 ≡ get_or l₂ i 0 = put_before 9216 (length l₂ - 9216) l₂ side_room z tail in
          mesh_from (put_mid 9216 (length l₂ - 9216) l₂ z) (omega (arith, all_long))
          X (λ i h. was i (omega arith) ∙ put_before 4096 5120 l₁ edge_room y wide i h ∙ front_at 4096 l x n i h)
          Y (λ i h. was (4096 + i) (omega arith) ∙ put_within 4096 5120 l₁ edge_room y wide i h)
          Z (λ i h. put_within 9216 (length l₂ - 9216) l₂ side_room z tail i (omega (arith, second_long)))
