-- Where no corner was pinched before an accepted cut and no particle of a triangle is pinned after it, pieces and bodies are equally many. Assumes nothing.
use mathlib.Core.Path.{◌≡◌, refl, sym, ◌∙◌, ap, subst}
use mathlib.Core.Bool.{Bool, true}
use mathlib.Core.Logic.{⊎_elim}
use mathlib.Core.List.{List, [], ◌∷◌}
use Prim.Native.Nat.{ℕ, zero, suc, ◌<◌}
use native.Mathlib.Omega.{arith}
use native.Mathlib.Nat.{not-suc-le-zero, le_of_suc-le-suc}
use borrow.Author.Tests.{ne_eqb}
use lib.ListN.{length, get_or}
use lib.Ieee.{Float}
use Rattle.lists.specs.Lists.{stands}
use Rattle.lists.specs.Chain.{stay, ahead}
use Rattle.lists.proofs.Chains.{chain_map}
use Rattle.model.specs.Mesh.{Triangle, Mesh, blank_triangle}
use Rattle.model.specs.Elements.{Kind, Triangles, Straps, Nothing, kind_of, corners_per_of, corners_of, triangles_from, elements_of}
use Rattle.model.specs.Run.{Entry, Rooms}
use Rattle.model.specs.Cut.{Line}
use Rattle.model.specs.Calls.{done, cut_call}
use Rattle.model.specs.Pieces.{corners_at, pieces, bodies}
use Rattle.model_laws.proofs.Accepted.{cut_accepted}
use Rattle.model_laws.proofs.Laws.{false_true, stands_head, stands_case}
use Rattle.piece_classes.specs.Classes.{Holds, ShareAt, NoHangingCorner}
use Rattle.piece_classes.proofs.Pieces.{no_hanging_corner}
use Rattle.hanging.specs.Hanging.{HeldBy, Beside, Firm, Unpinched, Unpinned}
use Rattle.hanging.proofs.Farther.{cut_all_firm}

-- ---- triangles as elements

corners_are : (k : ℕ) (ts : List Triangle) (i : ℕ) → i < length (triangles_from k ts) → (i < length ts) × (corners_at (triangles_from k ts) i ≡ corners_of (get_or ts i blank_triangle))
unfolding triangles_from
corners_are k [] i l = absurd (not-suc-le-zero l)
corners_are k (t ∷ ts) zero l = (omega arith, refl)
corners_are k (t ∷ ts) (suc i) l = let r = corners_are (suc k) ts i (le_of_suc-le-suc l) in (let h = r.0 in omega arith, r.1)

long_as : (k : ℕ) (ts : List Triangle) → length (triangles_from k ts) ≡ length ts
unfolding triangles_from
long_as k [] = refl
long_as k (t ∷ ts) = ap suc (long_as (suc k) ts)

module _ (ts : List Triangle) where
  held : (i x : ℕ) → Holds (triangles_from 0 ts) i x → HeldBy ts x i
  held i x H = let c = corners_are 0 ts i H.0 in record { there = c.0; holds = subst (λ (l : List ℕ). stands x l ≡ true) c.1 H.1 }

  inside : (i x : ℕ) → HeldBy ts x i → i < length (triangles_from 0 ts)
  inside i x H = subst (λ (n : ℕ). i < n) (sym (long_as 0 ts)) H.there

  holds : (i x : ℕ) → HeldBy ts x i → stands x (corners_at (triangles_from 0 ts) i) ≡ true
  holds i x H = subst (λ (l : List ℕ). stands x l ≡ true) (sym (corners_are 0 ts i (inside i x H)).1) H.holds

  both_in : (x y i : ℕ) → HeldBy ts x i → HeldBy ts y i → (z : ℕ) → stands z (x ∷ y ∷ []) ≡ true → stands z (corners_at (triangles_from 0 ts) i) ≡ true
  both_in x y i H K z e =
      ⊎_elim (λ d. subst (λ (w : ℕ). stands w (corners_at (triangles_from 0 ts) i) ≡ true) d (holds i x H))
      (λ d. ⊎_elim (λ q. subst (λ (w : ℕ). stands w (corners_at (triangles_from 0 ts) i) ≡ true) q (holds i y K)) (λ q. absurd (false_true q)) (stands_case z y [] d))
      (stands_case z x (y ∷ []) e)

  -- triangles that share x and one more particle share a facet with the corner x
  beside_share : (x i j : ℕ) → Beside ts x i j → ShareAt 3 (triangles_from 0 ts) x i j
  beside_share x i j s =
      record {
        share = record {
          first = inside i x s.one;
          second = inside j x s.two;
          particles = x ∷ s.more ∷ [];
          differ = (rw (ne_eqb s.more x s.other), (refl, tt));
          enough = omega arith;
          in_first = both_in x s.more i s.one s.more_one;
          in_second = both_in x s.more j s.two s.more_two;
        };
        corner = holds_first x s.more;
      }
    where
      holds_first : (a b : ℕ) → stands a (a ∷ b ∷ []) ≡ true
      holds_first a b = stands_head a a (b ∷ []) refl

-- ---- no corner hangs

-- straps that share a particle share a facet
strap_share : (M : Mesh) (x i j : ℕ) → Holds (elements_of Straps M) i x → Holds (elements_of Straps M) j x → ShareAt 2 (elements_of Straps M) x i j
strap_share M x i j H K =
    record {
      share = record {
        first = H.0;
        second = K.0;
        particles = x ∷ [];
        differ = (refl, tt);
        enough = omega arith;
        in_first = λ z e. ⊎_elim (λ d. subst (λ (w : ℕ). stands w (corners_at (elements_of Straps M) i) ≡ true) d H.1) (λ d. absurd (false_true d)) (stands_case z x [] e);
        in_second = λ z e. ⊎_elim (λ d. subst (λ (w : ℕ). stands w (corners_at (elements_of Straps M) j) ≡ true) d K.1) (λ d. absurd (false_true d)) (stands_case z x [] e);
      };
      corner = stands_head x x [] refl;
    }

-- where each particle is pinned or joined, and none of a triangle is pinned
none_hangs : (M : Mesh) → ((x : ℕ) → Firm M x) → Unpinned M → (K : Kind) → NoHangingCorner (corners_per_of K) (elements_of K M)
unfolding elements_of
none_hangs M F U Triangles x i j H K =
    let h = held M.triangles i x H in
    ⊎_elim (λ p. absurd (false_true (sym (U x i h) ∙ p)))
    (λ J. chain_map (λ a b s. ahead (beside_share M.triangles x a b s) stay) (J i j h (held M.triangles j x K)))
    (F x)
none_hangs M F U Straps x i j H K = ahead (strap_share M x i j H K) stay
none_hangs M F U Nothing x i j H K = absurd (not-suc-le-zero H.0)

-- After an accepted cut of triangles, in either edition, in which no corner was pinched, and after which no particle of a triangle is pinned, the count of pieces is that of bodies.
pub cut_counts : (sized : Bool) (M : Mesh) (n : ℕ) (B : Line) (f : Float) (L : Rooms) (M' : Mesh) (log : List Entry) (c : Bool)
    → kind_of M ≡ Triangles → Unpinched M → cut_call sized M n B f L ≡ done M' log c
    → Unpinned M' → pieces M' ≡ bodies M'
cut_counts sized M n B f L M' log c k P e U =
    no_hanging_corner M' (cut_accepted sized M n B f L M' log c e) (none_hangs M' (cut_all_firm sized M n B f L M' log c k P e) U (kind_of M'))
