-- Laws of facets in chains: how chains grow place by place, what a walk along one finds, and that elements joined by common facets are the pieces. Assumes nothing.
use mathlib.Core.Path.{◌≡◌, refl, sym, ◌∙◌, ap, ap₂, subst}
use mathlib.Core.Bool.{Bool, true, false}
use mathlib.Core.Logic.{◌⊎◌, inl, inr, ⊎_elim}
use mathlib.Core.List.{List, [], ◌∷◌}
use Prim.Native.Nat.{ℕ, zero, suc, ◌+◌, ◌*◌, ◌/◌, ◌%◌, ◌-◌, ◌<◌, ◌≤◌}
use native.Mathlib.Omega.{arith}
use native.Mathlib.Nat.{not-suc-le-zero}
use native.Mathlib.Decide.{ℕ_discrete, dec_lt}
use borrow.Author.Tests.{lt-ltb, le-ltb, eq-eqb, ne_eqb}
use lib.Dec.{eqb}
use lib.ListN.{length, get_or, set, length-set}
use Rattle.lists.specs.Lists.{stands, sift, up_to}
use Rattle.lists.specs.Chain.{Chain, stay, ahead, back}
use Rattle.lists.specs.Labels.{Lowest}
use Rattle.lists.proofs.Chains.{chain_trans, chain_map, chain_keeps, chain_to}
use Rattle.lists.proofs.Stores.{stored, at_eq}
use Rattle.lists.proofs.Sifts.{stands_get, stands_made}
use Rattle.lists.proofs.Walks.{sift_same}
use Rattle.model.specs.Elements.{Element}
use Rattle.model.specs.Pieces.{piece_count, corners_at}
use Rattle.elements.specs.Table.{Cornered}
use Rattle.reach.specs.Reached.{Plain}
use Rattle.piece_classes.specs.Classes.{Share, Classes, Holds}
use Rattle.pieces.specs.Counted.{PieceNumber, SidesLent}
use Rattle.bodies.specs.Forest.{Up, Down, Kept, Joined}
use Rattle.bodies.specs.Tables.{Tied}
use Rattle.pieces.specs.Sides.{smaller, larger, tops, after, low_of, high_of, LastIn, Filed, Headed, Sought, FacetFound, SameFacet, Sided, SideRoom, FacetStep}
use Rattle.bodies.proofs.Corners.{place_in, corner_at, corner_held, holds_corner}
use Rattle.piece_classes.proofs.Distinct.{once_same}
use Rattle.piece_classes.proofs.Counts.{classes_map}
use Rattle.bodies.proofs.Parents.{kept_refl, kept_trans, raised, raised_flat}
use Rattle.bodies.proofs.Trees.{tied_start, tied_map, tied_flat}
use Rattle.piece_classes.proofs.Pieces.{share_turned, count_only}
use Rattle.pieces.proofs.Tops.{tops_stand}

-- ---- chains

module _ (f g : ℕ → ℕ) where
  -- before the first place no chain has one
  headed_none : (heads : List ℕ) → ((h : ℕ) → get_or heads h 0 ≡ 0) → Headed f g heads 0
  headed_none heads z =
      record {
        head = λ h l. let e = z h in record { below = omega arith; has = λ s q. absurd (omega arith); none = λ s q r w. absurd (not-suc-le-zero r) };
      }

  filed_none : (links lows : List ℕ) → Filed f g links lows 0
  filed_none links lows = record { link = λ s l. absurd (not-suc-le-zero l); low = λ s l. absurd (not-suc-le-zero l) }

  -- one place more: it is the last of its chain
  module _ (t h : ℕ) (at : 3 * f t + g t ≡ h) where
    pub headed_more : (heads : List ℕ) → h < length heads → Headed f g heads t → Headed f g (set heads h (t + 1)) (t + 1)
    headed_more heads l H =
        record {
          head = λ j m.
              let o : j < length heads = simp length-set at m in
              ⊎_elim
              (λ y.
              let e = y.1 in
              let d = y.0 in
              record {
                below = omega arith;
                has = λ s w. let r : s ≡ t = omega arith in ap (λ (x : ℕ). 3 * f x + g x) r ∙ at ∙ sym d;
                none = λ s w r v. omega arith;
              })
              (λ y.
              let e = y.1 in
              let d = y.0 in
              let P = H.head j o in
              record {
                below = let b = P.below in omega arith;
                has = λ s w. P.has s (w ∙ e);
                none = λ s w r v.
                    elim (ℕ_discrete s t) [
                      | yes i ↦ d (sym v ∙ ap (λ (x : ℕ). 3 * f x + g x) i ∙ at)
                      | no ni ↦ P.none s (omega arith) (omega arith) v
                    ];
              })
              (stored heads h (t + 1) j l);
        }

    pub filed_more : (links lows : List ℕ) (first low : ℕ) → t < length links → t < length lows → LastIn f g h t first → low ≡ f t → Filed f g links lows t
        → Filed f g (set links t first) (set lows t low) (t + 1)
    filed_more links lows first low l m F e P =
        record {
          link = λ s o.
              ⊎_elim
              (λ y. subst (λ (x : ℕ). LastIn f g (3 * f s + g s) s x) (sym y.1) (subst (λ (x : ℕ). LastIn f g (3 * f x + g x) x first) (sym y.0) (subst (λ (x : ℕ). LastIn f g x t first) (sym at) F)))
              (λ y. let d = y.0 in let p : s < t = omega arith in subst (λ (x : ℕ). LastIn f g (3 * f s + g s) s x) (sym y.1) (P.link s p))
              (stored links t first s l);
          low = λ s o.
              ⊎_elim
              (λ y. y.1 ∙ e ∙ ap f (sym y.0))
              (λ y. let d = y.0 in let p : s < t = omega arith in y.1 ∙ P.low s p)
              (stored lows t low s m);
        }

-- fewer places of longer tables
pub filed_fewer : {f g : ℕ → ℕ} {links lows : List ℕ} {t m : ℕ} → m ≤ t → Filed f g links lows t → Filed f g links lows m
filed_fewer h F = record { link = λ s l. F.link s (omega arith); low = λ s l. F.low s (omega arith) }

-- ---- a walk along a chain

-- the facet of place t stands at no place from e on, and the place before e is in its chain
pub record Seeking (f g : ℕ → ℕ) (t e : ℕ) : Type 0 where
  pub below : e ≤ t
  pub has : (s : ℕ) → suc s ≡ e → 3 * f s + g s ≡ 3 * f t + g t
  pub none : (s : ℕ) → e ≤ s → s < t → f s ≡ f t → g s ≡ g t → ⊥

module _ (f g : ℕ → ℕ) (t : ℕ) where
  pub seek_start : {e : ℕ} → LastIn f g (3 * f t + g t) t e → Seeking f g t e
  seek_start L = record { below = L.below; has = L.has; none = λ s w r p q. L.none s w r (omega arith) }

  -- the place is in the chain and has another facet
  pub seek_pass : {e d : ℕ} → Seeking f g t e → 0 < e → (f (e - 1) ≡ f t → ⊥) → LastIn f g (3 * f (e - 1) + g (e - 1)) (e - 1) d → Seeking f g t d
  seek_pass {e} {d} S l ne L =
      let u : suc (e - 1) ≡ e = omega arith in
      let c = S.has (e - 1) u in
      record {
        below = let a = L.below in let b = S.below in omega arith;
        has = λ s q. L.has s q ∙ c;
        none = λ s w r p q.
            elim (dec_lt s (e - 1)) [
              | yes o ↦ L.none s w o (omega arith)
              | no o ↦
                  elim (ℕ_discrete s (e - 1)) [
                    | yes i ↦ ne (ap f (sym i) ∙ p)
                    | no ni ↦ S.none s (omega arith) r p q
                  ]
            ];
      }

  -- the place has the facet
  pub seek_found : {e : ℕ} → Seeking f g t e → 0 < e → f (e - 1) ≡ f t → FacetFound f g t e
  seek_found {e} S l same =
      record {
        below = S.below;
        same = λ s q.
            let i : s ≡ e - 1 = omega arith in
            let a : f s ≡ f t = ap f i ∙ same in
            let c = S.has s q in
            (a, omega arith);
        none = S.none;
      }

  pub seek_end : {e : ℕ} → Seeking f g t e → e ≡ 0 → FacetFound f g t 0
  seek_end S z = record { below = omega arith; same = λ s q. absurd (omega arith); none = λ s w r p q. S.none s (omega arith) r p q }

-- ---- pairs

-- a pair more is joined, and with it all that one of the two has been joined to
tied_through : {R S : ℕ → ℕ → Type 0} {p q : List ℕ} (x y : ℕ) → Tied R p → Joined p x y q
    → ((a b : ℕ) → R a b → S a b) → S x y → ((a b : ℕ) → S a b → R a b ⊎ ((a ≡ x) × ((b ≡ y) ⊎ R y b))) → Tied S q
tied_through {R} {S} {p} {q} x y T J more here split =
    record {
      down = J.down;
      sound = λ a b up.
          chain_map
          (λ c d u. ⊎_elim (λ v. chain_map (λ e f r. ahead (more e f r) stay) (T.sound c d v)) (λ e. rw (e.0, e.1) (ahead here stay)) u)
          (J.only a b up);
      done = λ a b s.
          ⊎_elim
          (λ r. chain_map J.more (T.done a b r))
          (λ e.
          subst (λ (m : ℕ). Chain (Up q) m b) (sym e.0)
          (⊎_elim (λ d. chain_to (sym d) J.way) (λ r. chain_trans J.way (chain_map J.more (T.done y b r))) e.1))
          (split a b s);
    }

module _ (k : ℕ) (f g : ℕ → ℕ) {t : ℕ} where
  same_wider : (a b : ℕ) → SameFacet k f g t a b → SameFacet k f g (t + 1) a b
  same_wider a b M =
      record { later = M.later; earlier = M.earlier; before = M.before; inside = (let l = M.inside in omega arith); low = M.low; high = M.high; first = M.first; second = M.second }

  same_narrower : (a b : ℕ) (M : SameFacet k f g (t + 1) a b) → (M.later ≡ t → ⊥) → SameFacet k f g t a b
  same_narrower a b M d =
      record { later = M.later; earlier = M.earlier; before = M.before; inside = (let l = M.inside in omega arith); low = M.low; high = M.high; first = M.first; second = M.second }

  -- a place whose facet no place before has
  pub same_pass : {e : ℕ} {p : List ℕ} → FacetFound f g t e → e ≡ 0 → Tied (SameFacet k f g t) p → Tied (SameFacet k f g (t + 1)) p
  same_pass {e} F z T =
      tied_map same_wider
      (λ a b M.
      same_narrower a b M
      (λ i. let o = M.before in F.none M.earlier (omega arith) (omega arith) (M.low ∙ ap f i) (M.high ∙ ap g i)))
      T

  -- a place whose facet one before has: the elements of the two are joined
  pub same_join : {e : ℕ} {p q : List ℕ} → FacetFound f g t e → 0 < e → Joined p (t / k) ((e - 1) / k) q → Tied (SameFacet k f g t) p → Tied (SameFacet k f g (t + 1)) q
  same_join {e} F l J T =
      let u : suc (e - 1) ≡ e = omega arith in
      let d = F.same (e - 1) u in
      let b = F.below in
      tied_through (t / k) ((e - 1) / k) T J same_wider
      (record { later = t; earlier = e - 1; before = omega arith; inside = omega arith; low = d.0; high = d.1; first = refl; second = refl })
      (λ a c M.
      elim (ℕ_discrete M.later t) [
        | no i ↦ inl (same_narrower a c M i)
        | yes i ↦
            let o = M.before in
            inr (
              sym M.first ∙ ap (λ (x : ℕ). x / k) i,
              elim (ℕ_discrete M.earlier (e - 1)) [
                | yes j ↦ inl (sym M.second ∙ ap (λ (x : ℕ). x / k) j)
                | no j ↦
                    inr
                    (record {
                      later = e - 1;
                      earlier = M.earlier;
                      before = elim (dec_lt M.earlier e) [
                        | yes h ↦ omega arith
                        | no h ↦ absurd (F.none M.earlier (omega arith) (omega arith) (M.low ∙ ap f i) (M.high ∙ ap g i))
                      ];
                      inside = omega arith;
                      low = M.low ∙ ap f i ∙ sym d.0;
                      high = M.high ∙ ap g i ∙ sym d.1;
                      first = refl;
                      second = M.second;
                    })
              ],
            )
      ])

-- ---- the whole state

-- at the start no facet is in a chain, and nothing joined
pub sided_none : (k : ℕ) (verts heads links lows parent : List ℕ) → ((h : ℕ) → get_or heads h 0 ≡ 0) → ((a : ℕ) → a < length parent → get_or parent a 0 ≡ a)
    → Sided k verts heads links lows (0 * k) parent
sided_none k verts heads links lows parent empty own =
    let e : 0 ≡ 0 * k = omega arith in
    subst (λ (m : ℕ). Sided k verts heads links lows m parent) e
    (record {
      headed = headed_none (low_of k verts) (high_of k verts) heads empty;
      filed = filed_none (low_of k verts) (high_of k verts) links lows;
      tied = tied_start {R = SameFacet k (low_of k verts) (high_of k verts) 0} parent own (λ a b M. not-suc-le-zero M.inside);
    })

pub sided_to : {k : ℕ} {verts heads links lows parent : List ℕ} {t m : ℕ} → t ≡ m → Sided k verts heads links lows t parent → Sided k verts heads links lows m parent
sided_to {k} {verts} {heads} {links} {lows} {parent} e S = subst (λ (m : ℕ). Sided k verts heads links lows m parent) e S

pub sided_same : {k t : ℕ} {verts heads links lows parent heads' links' lows' parent' : List ℕ} → heads' ≡ heads → links' ≡ links → lows' ≡ lows → parent' ≡ parent
    → Sided k verts heads links lows t parent → Sided k verts heads' links' lows' t parent'
sided_same a b c d S = rw (a, b, c, d) S

pub room_for : {n k : ℕ} {verts : List ℕ} {a b c d a' b' c' d' : ℕ} → a' ≡ a → b' ≡ b → c' ≡ c → d' ≡ d → SideRoom n k verts a b c d → SideRoom n k verts a' b' c' d'
room_for p q r s R =
    record {
      rows = R.rows;
      few = R.few;
      particles = R.particles;
      heads_long = p ∙ R.heads_long;
      links_long = (let h = R.links_long in omega arith);
      lows_long = (let h = R.lows_long in omega arith);
      parents_long = s ∙ R.parents_long;
    }

-- elements are as many as their parents
pub room_own : {n k : ℕ} {verts : List ℕ} {a b c d : ℕ} → SideRoom n k verts a b c d → SideRoom d k verts a b c d
room_own {n} {k} {verts} {a} {b} {c} {d} R = subst (λ (m : ℕ). SideRoom m k verts a b c d) (sym R.parents_long) R

-- ---- one facet more

module _ {n k : ℕ} {verts heads links lows parent : List ℕ} {t i low high : ℕ} (R : SideRoom n k verts (length heads) (length links) (length lows) (length parent)) (F : FacetStep n k verts t i low high)
    (S : Sided k verts heads links lows t parent) where
  -- the chain of the facet, its head, and the tables with it
  pub in_chain : 3 * low_of k verts t + high_of k verts t ≡ 3 * low + high
  in_chain = omega (arith, F.is_low, F.is_high)

  pub head_room : 3 * low + high < length heads
  head_room = omega (arith, F.chain, R.heads_long)

  pub placed : Filed (low_of k verts) (high_of k verts) (set links t (get_or heads (3 * low + high) 0)) (set lows t low) (t + 1)
  placed =
      filed_more (low_of k verts) (high_of k verts) t (3 * low + high) in_chain links lows (get_or heads (3 * low + high) 0) low (omega (arith, F.inside, R.links_long)) (omega (arith, F.inside, R.lows_long))
      (S.headed.head (3 * low + high) head_room) F.is_low S.filed

  placed_head : Headed (low_of k verts) (high_of k verts) (set heads (3 * low + high) (t + 1)) (t + 1)
  placed_head = headed_more (low_of k verts) (high_of k verts) t (3 * low + high) in_chain heads head_room S.headed

  abbrev pub sought : (w : ℕ) → w ≡ get_or heads (3 * low + high) 0 → Sought low w (set links t (get_or heads (3 * low + high) 0)) (set lows t low)
  sought w e =
      record {
        f = low_of k verts;
        g = high_of k verts;
        t = t;
        is_low = F.is_low;
        start = subst (λ (h : ℕ). LastIn (low_of k verts) (high_of k verts) h t w) (sym in_chain) (subst (λ (x : ℕ). LastIn (low_of k verts) (high_of k verts) (3 * low + high) t x) (sym e) (S.headed.head (3 * low + high) head_room));
        filed = filed_fewer (omega arith) placed;
        links_long = omega (arith, length-set links t (get_or heads (3 * low + high) 0), F.inside, R.links_long);
        lows_long = omega (arith, length-set lows t low, F.inside, R.lows_long);
      }

  -- no place before has it
  pub sided_pass : {e : ℕ} → FacetFound (low_of k verts) (high_of k verts) t e → e ≡ 0
      → Sided k verts (set heads (3 * low + high) (t + 1)) (set links t (get_or heads (3 * low + high) 0)) (set lows t low) (t + 1) parent
  sided_pass G z = record { headed = placed_head; filed = placed; tied = same_pass k (low_of k verts) (high_of k verts) G z S.tied }

  -- one has it: its element and this one are joined
  module _ {e j : ℕ} (G : FacetFound (low_of k verts) (high_of k verts) t e) (l : 0 < e) (at : j ≡ (e - 1) / k) where
    pub join_ready : (i < length parent) × (j < length parent) × Down parent
    join_ready =
        let a : i < n = subst (λ (x : ℕ). x < n) (sym F.row) (place_in n k t R.rows.some F.inside) in
        let b : j < n = subst (λ (x : ℕ). x < n) (sym at) (place_in n k (e - 1) R.rows.some (omega (arith, G.below, F.inside))) in
        (omega (arith, R.parents_long), omega (arith, R.parents_long), S.tied.down)

    pub sided_join : {q : List ℕ} → Joined parent i j q
        → Sided k verts (set heads (3 * low + high) (t + 1)) (set links t (get_or heads (3 * low + high) 0)) (set lows t low) (t + 1) q
    sided_join {q} J =
        record {
          headed = placed_head;
          filed = placed;
          tied = same_join k (low_of k verts) (high_of k verts) G l (subst (λ (y : ℕ). Joined parent (t / k) y q) at (subst (λ (x : ℕ). Joined parent x j q) F.row J)) S.tied;
        }

-- the room that is lent
pub room_of : {n k : ℕ} {verts heads : List ℕ} {links lows places : ℕ} → SidesLent n k verts heads links lows places → SideRoom n k verts (length heads) links lows places
room_of L =
    record {
      rows = record { some = L.corners.width.0; whole = L.corners.room };
      few = L.few;
      particles = L.corners.below;
      heads_long = L.heads_long;
      links_long = L.links_long;
      lows_long = L.lows_long;
      parents_long = L.places_long;
    }

-- ---- the lower and the higher of two corners

sorted : (x y : ℕ) → ((smaller x y ≡ x) × (larger x y ≡ y)) ⊎ ((smaller x y ≡ y) × (larger x y ≡ x))
unfolding smaller larger
sorted x y =
    elim (dec_lt x y) [
      | yes l ↦ inl (rw (lt-ltb x y l), rw (lt-ltb x y l))
      | no l ↦ inr (rw (le-ltb x y (omega arith)), rw (le-ltb x y (omega arith)))
    ]

turned : (x y : ℕ) → (x ≡ y → ⊥) → (smaller y x ≡ smaller x y) × (larger y x ≡ larger x y)
unfolding smaller larger
turned x y d =
    elim (dec_lt x y) [
      | yes l ↦ (rw (lt-ltb x y l, le-ltb y x (omega arith)), rw (lt-ltb x y l, le-ltb y x (omega arith)))
      | no l ↦ (rw (le-ltb x y (omega arith), lt-ltb y x (omega arith)), rw (le-ltb x y (omega arith), lt-ltb y x (omega arith)))
    ]

pair_chain : (x y : ℕ) → x < 1024 → y < 1024 → 3 * smaller x y + larger x y < 4096
pair_chain x y a b = ⊎_elim (λ e. let p = e.0 in let q = e.1 in omega arith) (λ e. let p = e.0 in let q = e.1 in omega arith) (sorted x y)

low_three : (verts : List ℕ) (t u : ℕ) → after t ≡ u → low_of 3 verts t ≡ smaller (get_or verts t 0) (get_or verts u 0)
unfolding low_of
low_three verts t u e = ap (λ (m : ℕ). smaller (get_or verts t 0) (get_or verts m 0)) e

high_three : (verts : List ℕ) (t u : ℕ) → after t ≡ u → high_of 3 verts t ≡ larger (get_or verts t 0) (get_or verts u 0)
unfolding high_of
high_three verts t u e = ap (λ (m : ℕ). larger (get_or verts t 0) (get_or verts m 0)) e

pub low_two : (verts : List ℕ) (t : ℕ) → low_of 2 verts t ≡ 0
unfolding low_of
low_two verts t = refl

pub high_two : (verts : List ℕ) (t : ℕ) → high_of 2 verts t ≡ get_or verts t 0
unfolding high_of
high_two verts t = refl

-- what is told of the facet of place t of triangle i, whose other corner is at u
facet_three : {n : ℕ} (verts : List ℕ) (i t u : ℕ) → ((s : ℕ) → s < n * 3 → get_or verts s 0 < 1024) → t < n * 3 → u < n * 3 → i ≡ t / 3 → after t ≡ u
    → FacetStep n 3 verts t i (smaller (get_or verts t 0) (get_or verts u 0)) (larger (get_or verts t 0) (get_or verts u 0))
facet_three verts i t u small lt lu row e =
    record {
      inside = lt;
      row = row;
      is_low = sym (low_three verts t u e);
      is_high = sym (high_three verts t u e);
      chain = pair_chain (get_or verts t 0) (get_or verts u 0) (small t lt) (small u lu);
    }

module _ {n : ℕ} (verts : List ℕ) (i : ℕ) (small : (s : ℕ) → s < n * 3 → get_or verts s 0 < 1024) (l : i < n) where
  pub facet_first : FacetStep n 3 verts (i * 3) i (smaller (get_or verts (i * 3) 0) (get_or verts (i * 3 + 1) 0)) (larger (get_or verts (i * 3) 0) (get_or verts (i * 3 + 1) 0))
  unfolding after
  facet_first = facet_three verts i (i * 3) (i * 3 + 1) small (omega arith) (omega arith) (omega arith) (omega arith)

  pub facet_second : FacetStep n 3 verts (i * 3 + 1) i (smaller (get_or verts (i * 3 + 1) 0) (get_or verts (i * 3 + 2) 0)) (larger (get_or verts (i * 3 + 1) 0) (get_or verts (i * 3 + 2) 0))
  unfolding after
  facet_second = facet_three verts i (i * 3 + 1) (i * 3 + 2) small (omega arith) (omega arith) (omega arith) (omega arith)

  pub facet_third : FacetStep n 3 verts (i * 3 + 2) i (smaller (get_or verts (i * 3 + 2) 0) (get_or verts (i * 3) 0)) (larger (get_or verts (i * 3 + 2) 0) (get_or verts (i * 3) 0))
  unfolding after
  facet_third = facet_three verts i (i * 3 + 2) (i * 3) small (omega arith) (omega arith) (omega arith) (omega arith)

-- of a strap the other corner is 0
beside_zero : (x : ℕ) → (smaller 0 x ≡ 0) × (larger 0 x ≡ x)
unfolding smaller larger
beside_zero zero = (refl, refl)
beside_zero (suc x) = (rw (lt-ltb 0 (suc x) (omega arith)), rw (lt-ltb 0 (suc x) (omega arith)))

pub facet_strap : {n : ℕ} (verts : List ℕ) (i t : ℕ) → ((s : ℕ) → s < n * 2 → get_or verts s 0 < 1024) → t < n * 2 → i ≡ t / 2
    → FacetStep n 2 verts t i (smaller 0 (get_or verts t 0)) (larger 0 (get_or verts t 0))
facet_strap verts i t small lt row =
    let z = beside_zero (get_or verts t 0) in
    let p = z.0 in
    let q = z.1 in
    record {
      inside = lt;
      row = row;
      is_low = p ∙ sym (low_two verts t);
      is_high = q ∙ sym (high_two verts t);
      chain = omega (arith, small t lt);
    }

-- the lower and the higher, known by other terms
pub facet_with : {n k : ℕ} {verts : List ℕ} {t i low high a b : ℕ} → a ≡ low → b ≡ high → FacetStep n k verts t i low high → FacetStep n k verts t i a b
facet_with p q F = rw (p, q) F

-- ---- common facets, and shared ones

bool_false : (b : Bool) → (b ≡ true → ⊥) → b ≡ false
bool_false true h = absurd (h refl)
bool_false false h = refl

-- what stands in a list of one or of two
in_one : (x a : ℕ) → stands x (a ∷ []) ≡ true → x ≡ a
in_one x a t =
    let w = stands_get x (a ∷ []) t in
    let l : w.0 < 1 = w.1.0 in
    let e : w.0 ≡ 0 = omega arith in
    sym w.1.1 ∙ at_eq (a ∷ []) e

in_pair : (x a b : ℕ) → stands x (a ∷ b ∷ []) ≡ true → (x ≡ a) ⊎ (x ≡ b)
in_pair x a b t =
    let w = stands_get x (a ∷ b ∷ []) t in
    let l : w.0 < 2 = w.1.0 in
    elim (ℕ_discrete w.0 0) [
      | yes e ↦ inl (sym w.1.1 ∙ at_eq (a ∷ b ∷ []) e)
      | no e ↦ let f : w.0 ≡ 1 = omega arith in inr (sym w.1.1 ∙ at_eq (a ∷ b ∷ []) f)
    ]

module _ {n : ℕ} {es : List Element} {verts : List ℕ} (C : Cornered 3 es n verts) (plain : Plain es) where
  -- the element of a place holds its facet, the lower and the higher, which differ
  held_low : (t : ℕ) → t < n * 3 → Holds es (t / 3) (low_of 3 verts t) × Holds es (t / 3) (high_of 3 verts t) × (low_of 3 verts t ≡ high_of 3 verts t → ⊥)
  unfolding after
  held_low t l =
      let i = t / 3 in
      let li : t / 3 < n = omega arith in
      let x = get_or verts t 0 in
      let y = get_or verts (t / 3 * 3 + (t + 1) % 3) 0 in
      let z : t / 3 * 3 + t % 3 ≡ t = omega arith in
      let hx : Holds es (t / 3) x = holds_corner C (t / 3) (t % 3) x li (omega arith) (at_eq verts z) in
      let hy : Holds es (t / 3) y = holds_corner C (t / 3) ((t + 1) % 3) y li (omega arith) refl in
      let lo = low_three verts t (t / 3 * 3 + (t + 1) % 3) refl in
      let hi = high_three verts t (t / 3 * 3 + (t + 1) % 3) refl in
      let w = C.whole (t / 3) hx.0 in
      let d : x ≡ y → ⊥ = λ q.
      let s = once_same (corners_at es (t / 3)) (plain.distinct (t / 3) hx.0) (t % 3) ((t + 1) % 3) (omega arith) (omega arith) (corner_at C (t / 3) (t % 3) li (omega arith) ∙ at_eq verts z ∙ q ∙ sym (corner_at C (t / 3) ((t + 1) % 3) li (omega arith))) in
      omega arith in
      ⊎_elim
      (λ e. (
        subst (λ (m : ℕ). Holds es (t / 3) m) (sym (lo ∙ e.0)) hx,
        subst (λ (m : ℕ). Holds es (t / 3) m) (sym (hi ∙ e.1)) hy,
        λ q. d (sym (lo ∙ e.0) ∙ q ∙ hi ∙ e.1),
      ))
      (λ e. (
        subst (λ (m : ℕ). Holds es (t / 3) m) (sym (lo ∙ e.0)) hy,
        subst (λ (m : ℕ). Holds es (t / 3) m) (sym (hi ∙ e.1)) hx,
        λ q. d (sym (sym (lo ∙ e.0) ∙ q ∙ hi ∙ e.1)),
      ))
      (sorted x y)

  same_share : (a b : ℕ) → SameFacet 3 (low_of 3 verts) (high_of 3 verts) (n * 3) a b → Share 3 es a b
  same_share a b M =
      let t = M.later in
      let s = M.earlier in
      let o = M.before in
      let lt : t < n * 3 = M.inside in
      let T = held_low t lt in
      let S = held_low s (omega arith) in
      let lo = low_of 3 verts t in
      let hi = high_of 3 verts t in
      let al : Holds es a lo = subst (λ (m : ℕ). Holds es m lo) M.first T.0 in
      let ah : Holds es a hi = subst (λ (m : ℕ). Holds es m hi) M.first T.1 in
      let bl : Holds es b lo = subst (λ (m : ℕ). Holds es m lo) M.second (subst (λ (x : ℕ). Holds es (s / 3) x) M.low S.0) in
      let bh : Holds es b hi = subst (λ (m : ℕ). Holds es m hi) M.second (subst (λ (x : ℕ). Holds es (s / 3) x) M.high S.1) in
      record {
        first = al.0;
        second = bl.0;
        particles = lo ∷ hi ∷ [];
        differ = (bool_false (stands lo (hi ∷ [])) (λ q. T.2 (in_one lo hi q)), (refl, tt));
        enough = omega arith;
        in_first = λ x q.
            ⊎_elim
            (λ e. subst (λ (m : ℕ). stands m (corners_at es a) ≡ true) (sym e) al.1)
            (λ e. subst (λ (m : ℕ). stands m (corners_at es a) ≡ true) (sym e) ah.1)
            (in_pair x lo hi q);
        in_second = λ x q.
            ⊎_elim
            (λ e. subst (λ (m : ℕ). stands m (corners_at es b) ≡ true) (sym e) bl.1)
            (λ e. subst (λ (m : ℕ). stands m (corners_at es b) ≡ true) (sym e) bh.1)
            (in_pair x lo hi q);
      }

  -- the place of element i whose facet is two particles that it holds
  abbrev FacetAt : ℕ → ℕ → ℕ → Type 0
  FacetAt i x y = (t : ℕ) × ((t < n * 3) × ((t / 3 ≡ i) × ((low_of 3 verts t ≡ smaller x y) × (high_of 3 verts t ≡ larger x y))))

  facet_at : (i x y : ℕ) → Holds es i x → Holds es i y → (x ≡ y → ⊥) → FacetAt i x y
  unfolding after
  facet_at i x y hx hy d =
      let li : i < n = omega (arith, C.count, hx.0) in
      let u = corner_held C i x hx in
      let w = corner_held C i y hy in
      let cu = u.1.0 in
      let cw = w.1.0 in
      let ne : u.0 ≡ w.0 → ⊥ = λ q. (let z : i * 3 + u.0 ≡ i * 3 + w.0 = omega arith in d (sym u.1.1 ∙ at_eq verts z ∙ w.1.1)) in
      elim (ℕ_discrete ((u.0 + 1) % 3) w.0) [
        | yes e ↦
            let z : after (i * 3 + u.0) ≡ i * 3 + w.0 = omega arith in
            (i * 3 + u.0, (omega arith, (omega arith, (low_three verts (i * 3 + u.0) (i * 3 + w.0) z ∙ ap₂ smaller u.1.1 w.1.1, high_three verts (i * 3 + u.0) (i * 3 + w.0) z ∙ ap₂ larger u.1.1 w.1.1))))
        | no e ↦
            let z : after (i * 3 + w.0) ≡ i * 3 + u.0 = omega arith in
            let r = turned x y d in
            (i * 3 + w.0, (omega arith, (omega arith, (low_three verts (i * 3 + w.0) (i * 3 + u.0) z ∙ ap₂ smaller w.1.1 u.1.1 ∙ r.0, high_three verts (i * 3 + w.0) (i * 3 + u.0) z ∙ ap₂ larger w.1.1 u.1.1 ∙ r.1))))
      ]

  same_below : (a b : ℕ) → b < a → Share 3 es a b → SameFacet 3 (low_of 3 verts) (high_of 3 verts) (n * 3) a b
  same_below a b o S =
      let enough = S.enough in
      let ps = S.particles in
      let x = get_or ps 0 0 in
      let y = get_or ps 1 0 in
      let l : 1 < length ps = omega arith in
      let m : 0 < length ps = omega arith in
      let tx : stands x ps ≡ true = stands_made x ps 0 m refl in
      let ty : stands y ps ≡ true = stands_made y ps 1 l refl in
      let d : x ≡ y → ⊥ = λ q. (let z = once_same ps S.differ 0 1 m l q in omega arith) in
      let A = facet_at a x y (S.first, S.in_first x tx) (S.first, S.in_first y ty) d in
      let B = facet_at b x y (S.second, S.in_second x tx) (S.second, S.in_second y ty) d in
      let ea = A.1.1.0 in
      let eb = B.1.1.0 in
      record {
        later = A.0;
        earlier = B.0;
        before = omega arith;
        inside = A.1.0;
        low = B.1.1.1.0 ∙ sym A.1.1.1.0;
        high = B.1.1.1.1 ∙ sym A.1.1.1.1;
        first = ea;
        second = eb;
      }

module _ {n : ℕ} {es : List Element} {verts : List ℕ} (C : Cornered 2 es n verts) where
  held_two : (t : ℕ) → t < n * 2 → Holds es (t / 2) (high_of 2 verts t)
  held_two t l =
      let z : t / 2 * 2 + t % 2 ≡ t = omega arith in
      holds_corner C (t / 2) (t % 2) (high_of 2 verts t) (omega arith) (omega arith) (at_eq verts z ∙ sym (high_two verts t))

  same_share_two : (a b : ℕ) → SameFacet 2 (low_of 2 verts) (high_of 2 verts) (n * 2) a b → Share 2 es a b
  same_share_two a b M =
      let t = M.later in
      let s = M.earlier in
      let o = M.before in
      let lt : t < n * 2 = M.inside in
      let hi = high_of 2 verts t in
      let ah : Holds es a hi = subst (λ (m : ℕ). Holds es m hi) M.first (held_two t lt) in
      let bh : Holds es b hi = subst (λ (m : ℕ). Holds es m hi) M.second (subst (λ (x : ℕ). Holds es (s / 2) x) M.high (held_two s (omega arith))) in
      record {
        first = ah.0;
        second = bh.0;
        particles = hi ∷ [];
        differ = (refl, tt);
        enough = omega arith;
        in_first = λ x q. subst (λ (m : ℕ). stands m (corners_at es a) ≡ true) (sym (in_one x hi q)) ah.1;
        in_second = λ x q. subst (λ (m : ℕ). stands m (corners_at es b) ≡ true) (sym (in_one x hi q)) bh.1;
      }

  same_below_two : (a b : ℕ) → b < a → Share 2 es a b → SameFacet 2 (low_of 2 verts) (high_of 2 verts) (n * 2) a b
  same_below_two a b o S =
      let enough = S.enough in
      let ps = S.particles in
      let x = get_or ps 0 0 in
      let tx : stands x ps ≡ true = stands_made x ps 0 (omega arith) refl in
      let la : a < n = omega (arith, C.count, S.first) in
      let u = corner_held C a x (S.first, S.in_first x tx) in
      let w = corner_held C b x (S.second, S.in_second x tx) in
      let cu = u.1.0 in
      let cw = w.1.0 in
      record {
        later = a * 2 + u.0;
        earlier = b * 2 + w.0;
        before = omega arith;
        inside = omega arith;
        low = low_two verts (b * 2 + w.0) ∙ sym (low_two verts (a * 2 + u.0));
        high = high_two verts (b * 2 + w.0) ∙ w.1.1 ∙ sym u.1.1 ∙ sym (high_two verts (a * 2 + u.0));
        first = omega arith;
        second = omega arith;
      }

-- a relation of pairs, the later first, that is the shared facets
either_way : {k : ℕ} {es : List Element} {R : ℕ → ℕ → Type 0} → ((a b : ℕ) → b < a → Share k es a b → R a b) → (a b : ℕ) → Share k es a b → Chain R a b
either_way below a b S =
    elim (ℕ_discrete a b) [
      | yes e ↦ chain_to e stay
      | no d ↦
          elim (dec_lt b a) [
            | yes o ↦ ahead (below a b o S) stay
            | no o ↦ back (below b a (omega arith) (share_turned S)) stay
          ]
    ]

-- ---- roots, whether the table is flat or not

-- any table can be made flat, here up to place i
flat_to : (p : List ℕ) → Down p → (i : ℕ) → i ≤ length p → (q : List ℕ) × (Kept p q × ((a : ℕ) → a < i → get_or q (get_or q a 0) 0 ≡ get_or q a 0))
flat_to p d zero l = (p, (kept_refl p d, λ a o. absurd (not-suc-le-zero o)))
flat_to p d (suc i) l =
    let R = flat_to p d i (omega arith) in
    let q = R.0 in
    let K = R.1.0 in
    let m : i < length q = omega (arith, K.long) in
    (set q i (get_or q (get_or q i 0) 0), (kept_trans K (raised q i K.down m), λ a o. raised_flat q i K.down m R.1.1 a (omega arith)))

-- a flat table that keeps what is joined has the same roots
root_kept : {p q : List ℕ} → Down p → Kept p q → ((a : ℕ) → a < length p → get_or q (get_or q a 0) 0 ≡ get_or q a 0) → (x : ℕ) → x < length p → eqb (get_or p x 0) x ≡ eqb (get_or q x 0) x
root_kept {p} {q} d K flat x l =
    elim (ℕ_discrete (get_or p x 0) x) [
      | yes e ↦ eq-eqb _ _ e ∙ sym (eq-eqb _ _ (K.tops x e))
      | no ne ↦
          let u = get_or p x 0 in
          let lu : u < x = omega (arith, d x l) in
          let len = K.long in
          let e : get_or q x 0 ≡ get_or q u 0 = chain_keeps (λ a. get_or q a 0) (λ a b up. sym (flat a (let h = up.0 in omega arith)) ∙ at_eq q up.1) (K.more x u (l, refl)) in
          let du = K.down u (omega arith) in
          let nq : get_or q x 0 ≡ x → ⊥ = λ f. omega arith in
          ne_eqb _ _ ne ∙ sym (ne_eqb _ _ nq)
    ]

tops_kept : {p q : List ℕ} → Down p → Kept p q → ((a : ℕ) → a < length p → get_or q (get_or q a 0) 0 ≡ get_or q a 0) → tops p ≡ tops q
unfolding tops up_to
tops_kept {p} {q} d K flat =
    sift_same (λ i. eqb (get_or p i 0) i) (λ i. eqb (get_or q i 0) i) (length p) (λ x. x) (λ x l. root_kept d K flat x l)
    ∙ ap (λ (m : ℕ). sift (λ i. eqb (get_or q i 0) i) (up_to m)) (sym K.long)

-- the roots of a table that joins R stand for the classes of R
tops_classes : {R : ℕ → ℕ → Type 0} {n : ℕ} {p : List ℕ} → Tied R p → length p ≡ n → Classes R n (tops p)
tops_classes {R} {n} {p} T long =
    let F = flat_to p T.down (length p) (omega arith) in
    let q = F.0 in
    let K = F.1.0 in
    let flat = F.1.1 in
    let low : Lowest R n q = subst (λ (m : ℕ). Lowest R m q) (K.long ∙ long) (tied_flat T K flat) in
    subst (λ (l : List ℕ). Classes R n l) (sym (tops_kept T.down K flat)) (tops_stand low)

-- ---- the whole

-- the roots of a table that joins all common facets are as many as the pieces
number_by : {n k : ℕ} {es : List Element} {R : ℕ → ℕ → Type 0} {reps : List ℕ} → n ≡ length es → Plain es → ((a b : ℕ) → R a b → Share k es a b) → ((a b : ℕ) → b < a → Share k es a b → R a b)
    → Classes R n reps → length reps ≡ piece_count k es
number_by {n} {k} {es} {R} {reps} count plain to from D =
    count_only k es plain reps
    (subst (λ (m : ℕ). Classes (Share k es) m reps) count
    (classes_map (λ i j c. chain_map (λ a b r. ahead (to a b r) stay) c) (λ i j c. chain_map (either_way from) c) D))

number_three : {n : ℕ} {verts p : List ℕ} {r : ℕ} → length p ≡ n → Tied (SameFacet 3 (low_of 3 verts) (high_of 3 verts) (n * 3)) p → r ≡ length (tops p) → PieceNumber n 3 verts r
number_three long T e =
    record { counted = λ es C plain. e ∙ number_by C.count plain (same_share C plain) (same_below C plain) (tops_classes T long) }

number_two : {n : ℕ} {verts p : List ℕ} {r : ℕ} → length p ≡ n → Tied (SameFacet 2 (low_of 2 verts) (high_of 2 verts) (n * 2)) p → r ≡ length (tops p) → PieceNumber n 2 verts r
number_two long T e =
    record { counted = λ es C plain. e ∙ number_by C.count plain (same_share_two C) (same_below_two C) (tops_classes T long) }

pub side_number : {n k : ℕ} {verts p : List ℕ} {r : ℕ} → 2 ≤ k → k ≤ 3 → length p ≡ n → Tied (SameFacet k (low_of k verts) (high_of k verts) (n * k)) p → r ≡ length (tops p)
    → PieceNumber n k verts r
side_number {n} {k} {verts} {p} {r} two three long T e =
    elim (ℕ_discrete k 3) [
      | yes d ↦ subst (λ (m : ℕ). PieceNumber n m verts r) (sym d) (number_three long (subst (λ (m : ℕ). Tied (SameFacet m (low_of m verts) (high_of m verts) (n * m)) p) d T) e)
      | no d ↦
          let h : k ≡ 2 = omega arith in
          subst (λ (m : ℕ). PieceNumber n m verts r) (sym h) (number_two long (subst (λ (m : ℕ). Tied (SameFacet m (low_of m verts) (high_of m verts) (n * m)) p) h T) e)
    ]
