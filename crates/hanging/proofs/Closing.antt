-- The closing pass leaves no corner hanging, and so neither does a cut or a crack of triangles: `cut_firm`, `crack_firm`. Assumes nothing.
use mathlib.Core.Path.{◌≡◌, refl, sym, ◌∙◌, ap, subst}
use mathlib.Core.Bool.{Bool, true, false, not, ◌&&◌, ◌||◌}
use mathlib.Core.Logic.{◌⊎◌, inl, inr, ⊎_elim}
use mathlib.Core.List.{List, [], ◌∷◌, ◌++◌, map, append-nil, append_assoc}
use Prim.Native.Nat.{ℕ, zero, suc, ◌+◌, ◌-◌, ◌<◌, ◌≤◌}
use native.Mathlib.Omega.{arith}
use native.Mathlib.Nat.{not-suc-le-zero}
use native.Mathlib.Decide.{ℕ_discrete, dec_lt}
use borrow.Author.Tests.{ne_eqb, leb-false}
use lib.Dec.{leb}
use lib.ListN.{length, get_or, drop, get_or-append, get_or-eq_default}
use lib.Ieee.{Float, eq, ne}
use Rattle.lists.specs.Lists.{pick, stands, any, fold, each, map_at_of, empty, up_to}
use Rattle.lists.proofs.Sifts.{stands_append, or_true, true_and, up_to_stands, rising_stands}
use Rattle.float.specs.Numbers.{zero32}
use Rattle.model.specs.Mesh.{Particle, Triangle, Edge, Mesh, blank}
use Rattle.model.specs.Elements.{Kind, Triangles, Element, kind_of, particle, corners_of, triangle_element, triangles_from, elements_of, fan_of}
use Rattle.model.specs.Run.{Entry, Rooms, Run, start, step_to, splits_of}
use Rattle.model.specs.Split.{Opening, opening_of, splits?, portion, only_at, copied, rewired_triangles, at_longest, settled, straddles, split_entries, gone_entries, split_made, split_step, split_by_sides_of}
use Rattle.model.specs.Pieces.{body_labels, across?, without_straddlers, straddlers_gone, remove_straddlers_of}
use Rattle.model.specs.Cut.{Line, Blade, split_ends, near_corners, split_by_blade, candidates, pinched, split_free, split_pinched_of, cut_facets_of, marked_by, cut_along, cut}
use Rattle.model.specs.Crack.{loads_of, torn_ends, crack_edge, crack}
use Rattle.model.specs.Calls.{triangles_lent, blade_of, outcome, done, cut_call, crack_call}
use Rattle.model.specs.Trace.{All}
use Rattle.model_laws.proofs.Traced.{copies_from, step_splits, splits_here, copied_length, no_splits}
use Rattle.model_laws.proofs.Indexed.{Indexed, sides_indexed, fold_indexed, straddlers_indexed, edge_indexed}
use Rattle.model_laws.proofs.Accepted.{accepted_indexed}
use Rattle.model_laws.proofs.Kept.{outcome_done, unless_done, no_refusal, cut_no_refusal}
use Rattle.model_laws.proofs.Laws.{false_true, all_append, all_tab, length_map_at, get_d_map_at, stands_head, stands_tail, stands_case}
use Rattle.hanging.specs.Hanging.{HeldBy, Pinned, Firm, Touching, SpokenOf, cut_begins, crack_begins}
use Rattle.hanging.proofs.Opened.{held_low, three_corners, joined_few, joined_old, joined_new}

-- ---- lists

drop_front : {A : Type 0} (a b : List A) → drop (length a) (a ++ b) ≡ b
drop_front [] b = refl
drop_front (x ∷ a) b = drop_front a b

not_both : (a b : Bool) → (a && b) ≡ false → (a ≡ false) ⊎ (b ≡ false)
not_both true b e = inr e
not_both false b e = inl refl

not_false : (b : Bool) → not b ≡ false → b ≡ true
not_false true e = refl
not_false false e = absurd (false_true (sym e))

-- ---- particles

-- another particle than v is as it was
particle_kept : (O : Opening) (ps : List Particle) (x : ℕ) → x < length ps → (x ≡ O.v → ⊥) → get_or (copied O ps) x blank ≡ get_or ps x blank
unfolding copied
particle_kept O ps x l m =
    let g : ℕ → Particle → Particle = only_at O.v (portion O 0) in
    let k : g x (get_or ps x blank) ≡ get_or ps x blank = rw (ne_eqb x O.v m) in
    get_or-append (map_at_of g ps) (map (λ c. portion O (suc c) (get_or ps O.v blank)) (up_to (O.count - 1))) blank x (subst (λ (q : ℕ). x < q) (sym (length_map_at g ps)) l)
    ∙ get_d_map_at g ps x blank blank l
    ∙ k

-- past the end stands a pinned one
past_pinned : (M : Mesh) (x : ℕ) → length M.particles ≤ x → Pinned M x
unfolding eq
past_pinned M x l = ap (λ (p : Particle). eq p.inv zero32) (get_or-eq_default M.particles blank {n = x} l)

-- ---- the closing pass under way

-- From S the pass has come to R: of the particles that it has seen, and of all that are new since, each is pinned or joined; and the copies logged since are new.
pub record Under (S : Run) (seen : List ℕ) (R : Run) : Type 0 where
  pub indexed : Indexed R.mesh
  pub more : length S.mesh.particles ≤ length R.mesh.particles
  pub firm : (x : ℕ) → (stands x seen ≡ true) ⊎ (length S.mesh.particles ≤ x) → Firm R.mesh x
  pub behind : List Entry
  pub log : R.log ≡ S.log ++ behind
  pub copies : All (λ (cs : ℕ × ℕ). length S.mesh.particles ≤ cs.0) (splits_of behind)

pub begun : (S : Run) → Indexed S.mesh → Under S [] S
unfolding splits_of each
begun S X =
    record {
      indexed = X;
      more = omega arith;
      firm = λ x c. ⊎_elim (λ e. absurd (false_true e)) (λ l. inl (past_pinned S.mesh x l)) c;
      behind = [];
      log = sym (append-nil S.log);
      copies = tt;
    }

module _ (S : Run) (seen : List ℕ) (R : Run) (U : Under S seen R) (v : ℕ) where
  abbrev O : Opening
  O = opening_of Triangles R.mesh v (map (λ (e : Element). 0) (fan_of Triangles R.mesh v))

  abbrev n₀ : ℕ
  n₀ = length S.mesh.particles

  seen_case : (x : ℕ) → (x ≡ v → ⊥) → (stands x (v ∷ seen) ≡ true) ⊎ (n₀ ≤ x) → (stands x seen ≡ true) ⊎ (n₀ ≤ x)
  seen_case x m c = ⊎_elim (λ e. ⊎_elim (λ d. absurd (m (sym d))) (λ d. inl d) (stands_case x v seen e)) (λ l. inr l) c

  -- v does not split: it is pinned, or has fewer than two groups
  here : splits? O R.mesh ≡ false → Firm R.mesh v
  unfolding splits? opening_of ne fan_of elements_of
  here e =
      ⊎_elim (λ a. inr (joined_few R.mesh.triangles v (three_corners (length R.mesh.particles) R.mesh.triangles U.indexed.triangles) (leb-false 2 O.count a)))
      (λ a. inl (not_false (eq (particle R.mesh v).inv zero32) a))
      (not_both (leb 2 O.count) (ne (particle R.mesh v).inv zero32) e)

  stayed : splits? O R.mesh ≡ false → Under S (v ∷ seen) R
  stayed e =
      record {
        indexed = U.indexed;
        more = U.more;
        firm = λ x c. elim (ℕ_discrete x v) [ yes d ↦ subst (λ (y : ℕ). Firm R.mesh y) (sym d) (here e) | no m ↦ U.firm x (seen_case x m c) ];
        behind = U.behind;
        log = U.log;
        copies = U.copies;
      }

  -- v splits
  module _ (e : splits? O R.mesh ≡ true) (X : Indexed (settled Triangles O (at_longest Triangles O R.mesh))) where
    abbrev next : Mesh
    next = settled Triangles O (at_longest Triangles O R.mesh)

    low : v < length R.mesh.particles
    unfolding opening_of
    low = (splits_here O R.mesh e).1

    firm_next : (x : ℕ) → (stands x (v ∷ seen) ≡ true) ⊎ (n₀ ≤ x) → Firm next x
    unfolding settled at_longest rewired_triangles opening_of fan_of elements_of
    firm_next x c =
        let ts = R.mesh.triangles in
        let n = length R.mesh.particles in
        elim (ℕ_discrete x v) [
          | yes d ↦ inr (joined_new ts n v U.indexed.triangles low x (inl d))
          | no m ↦
              elim (dec_lt x n) [
                | yes l ↦
                    ⊎_elim (λ p. inl (ap (λ (q : Particle). eq q.inv zero32) (particle_kept O R.mesh.particles x l m) ∙ p))
                    (λ J. inr (joined_old ts n v U.indexed.triangles low x l m J)) (U.firm x (seen_case x m c))
                | no l ↦ inr (joined_new ts n v U.indexed.triangles low x (inr (omega arith)))
              ]
        ]

    more_next : n₀ ≤ length next.particles
    unfolding settled at_longest
    more_next = let a = U.more in let b = copied_length O R.mesh.particles in omega arith

    module _ (gone : Edge → Bool) (es : List Edge) where
      abbrev entries : List Entry
      entries = split_entries O ++ gone_entries gone es ++ []

      copies_next : All (λ (cs : ℕ × ℕ). n₀ ≤ cs.0) (splits_of (U.behind ++ entries))
      unfolding copies_from up_to opening_of splits_of each
      copies_next =
          subst (All (λ (cs : ℕ × ℕ). n₀ ≤ cs.0)) (sym (step_splits O gone es U.behind [] refl))
          (all_append (λ (cs : ℕ × ℕ). n₀ ≤ cs.0) (splits_of U.behind) (copies_from O.before O.v (O.count - 1)) U.copies
          (all_tab (λ (cs : ℕ × ℕ). n₀ ≤ cs.0) (λ g. (O.before + g, O.v)) (O.count - 1) (λ i. i) (λ i. let a = U.more in omega arith)))

      went : (k b : ℕ) → Under S (v ∷ seen) (step_to R next entries k b)
      unfolding step_to
      went k b =
          record {
            indexed = X;
            more = more_next;
            firm = firm_next;
            behind = U.behind ++ entries;
            log = ap (λ (l : List Entry). l ++ entries) U.log ∙ append_assoc S.log U.behind entries;
            copies = copies_next;
          }

  -- v in its turn
  turn : Under S (v ∷ seen) (split_free Triangles R v)
  unfolding split_free split_by_sides_of split_step split_made step_to
  turn = by (splits? O R.mesh) refl (sides_indexed Triangles v (map (λ (e : Element). 0) (fan_of Triangles R.mesh v)) R U.indexed)
    where
      by : (b : Bool) → splits? O R.mesh ≡ b → Indexed (pick b (split_made [] (λ M. M) Triangles O R) R).mesh → Under S (v ∷ seen) (pick b (split_made [] (λ M. M) Triangles O R) R)
      by true e X = went e X (straddles Triangles (at_longest Triangles O R.mesh) O) (at_longest Triangles O R.mesh).edges _ _
      by false e X = stayed e

-- all of a list in their turns
abbrev pub Passed : Run → List ℕ → List ℕ → Run → Type 0
Passed S seen l R = (out : List ℕ) × (Under S out R × ((x : ℕ) → (stands x seen ≡ true) ⊎ (stands x l ≡ true) → stands x out ≡ true))

pub pass : (S : Run) (l seen : List ℕ) (R : Run) → Under S seen R → Passed S seen l (fold (split_free Triangles) R l)
unfolding fold
pass S [] seen R U = (seen, (U, λ x c. ⊎_elim (λ e. e) (λ e. absurd (false_true e)) c))
pass S (v ∷ l) seen R U =
    let r = pass S l (v ∷ seen) (split_free Triangles R v) (turn S seen R U v) in (
      r.0,
      (
        r.1.0,
        λ x c. r.1.1 x (⊎_elim (λ e. inl (stands_tail x v seen e)) (λ e. ⊎_elim (λ d. inl (stands_head x v seen d)) (λ d. inr d) (stands_case x v l e)) c),
      ),
    )

-- ---- of whom it is said

pub or_first : (a b : Bool) → a ≡ true → a || b ≡ true
or_first true b e = refl
or_first false b e = absurd (false_true e)

any_yes : (p : ℕ → Bool) (w : ℕ) (l : List ℕ) → stands w l ≡ true → p w ≡ true → any p l ≡ true
unfolding any
any_yes p w [] e h = absurd (false_true e)
any_yes p w (y ∷ l) e h = ⊎_elim (λ d. or_first (p y) (any p l) (ap p d ∙ h)) (λ d. or_true (p y) (any p l) (any_yes p w l d h)) (stands_case w y l e)

-- a corner of a triangle with a split one is among the corners that the pass takes
near_stands : (ends : List ℕ) (x w : ℕ) → stands w ends ≡ true → (k : ℕ) (ts : List Triangle) (i : ℕ) → HeldBy ts x i → HeldBy ts w i → stands x (each (near_corners ends) (triangles_from k ts)) ≡ true
unfolding each triangles_from near_corners
near_stands ends x w s k [] i H K = absurd (not-suc-le-zero H.there)
near_stands ends x w s k (t ∷ ts) zero H K =
    let c : stands x (pick (any (λ y. stands y ends) (corners_of t)) (corners_of t) []) ≡ true = rw (any_yes (λ y. stands y ends) w (corners_of t) K.holds s) H.holds in
    stands_append x (pick (any (λ y. stands y ends) (corners_of t)) (corners_of t) []) (each (near_corners ends) (triangles_from (suc k) ts)) ∙ or_first _ _ c
near_stands ends x w s k (t ∷ ts) (suc i) H K =
    let a = H.there in
    let b = K.there in
    let r = near_stands ends x w s (suc k) ts i (record { there = omega arith; holds = H.holds }) (record { there = omega arith; holds = K.holds }) in
    stands_append x (near_corners ends (triangle_element k t)) (each (near_corners ends) (triangles_from (suc k) ts)) ∙ or_true (stands x (near_corners ends (triangle_element k t))) _ r

pub touching_pinched : (S : Run) → Indexed S.mesh → (x : ℕ) → Touching S x → stands x (pinched Triangles S) ≡ true
unfolding pinched elements_of
touching_pinched S X x T =
    rising_stands (length S.mesh.particles) (each (near_corners (split_ends S)) (triangles_from 0 S.mesh.triangles)) x
    ∙ true_and (near_stands (split_ends S) x T.split T.logged 0 S.mesh.triangles T.triangle T.mine T.theirs)
    (up_to_stands (length S.mesh.particles) x (held_low (length S.mesh.particles) S.mesh.triangles X.triangles x T.triangle T.mine))

copies_new : (n x : ℕ) (l : List (ℕ × ℕ)) → All (λ (cs : ℕ × ℕ). n ≤ cs.0) l → stands x (map (λ (cs : ℕ × ℕ). cs.0) l) ≡ true → n ≤ x
copies_new n x [] u e = absurd (false_true e)
copies_new n x (cs ∷ l) u e = ⊎_elim (λ d. subst (λ (y : ℕ). n ≤ y) d u.0) (λ d. copies_new n x l u.1 d) (stands_case x cs.0 (map (λ (c : ℕ × ℕ). c.0) l) e)

-- ---- the theorem on runs

-- what the pass makes of S, whatever came before it
abbrev Closed : Run → Run → Type 0
Closed S R = (x : ℕ) → SpokenOf S R.log x → Firm R.mesh x

spoken_closed : (S : Run) → Indexed S.mesh → (out : List ℕ) (R : Run) → Under S out R → ((x : ℕ) → stands x (pinched Triangles S) ≡ true → stands x out ≡ true) → Closed S R
spoken_closed S X out R U all x c =
    U.firm x
    (⊎_elim (λ T. inl (all x (touching_pinched S X x T)))
    (λ e. inr (copies_new (length S.mesh.particles) x (splits_of U.behind) U.copies
    (subst (λ (l : List Entry). stands x (map (λ (cs : ℕ × ℕ). cs.0) (splits_of l)) ≡ true) (ap (drop (length S.log)) U.log ∙ drop_front S.log U.behind) e)))
    c)

pinched_under : (S : Run) → Indexed S.mesh → Passed S [] (pinched Triangles S) (split_pinched_of Triangles S)
unfolding split_pinched_of
pinched_under S X = pass S (pinched Triangles S) [] S (begun S X)

-- whatever run the pass begins with
pub pass_firm : (S : Run) → Indexed S.mesh → (x : ℕ) → SpokenOf S (split_pinched_of Triangles S).log x → Firm (split_pinched_of Triangles S).mesh x
pass_firm S X = let r = pinched_under S X in spoken_closed S X r.0 (split_pinched_of Triangles S) r.1.0 (λ x e. r.1.1 x (inr e))

-- the removal of straddlers leaves triangles, particles and copies
gone_under : (S : Run) (out : List ℕ) (R : Run) → Under S out R → Indexed (remove_straddlers_of Triangles R).mesh → Under S out (remove_straddlers_of Triangles R)
unfolding remove_straddlers_of straddlers_gone without_straddlers step_to
gone_under S out R U X =
    let es = elements_of Triangles R.mesh in
    let g = gone_entries (across? Triangles es (body_labels es)) R.mesh.edges in
    record {
      indexed = X;
      more = U.more;
      firm = U.firm;
      behind = U.behind ++ g;
      log = ap (λ (l : List Entry). l ++ g) U.log ∙ append_assoc S.log U.behind g;
      copies = subst (All (λ (cs : ℕ × ℕ). length S.mesh.particles ≤ cs.0)) (sym (no_splits U.behind (across? Triangles es (body_labels es)) R.mesh.edges)) U.copies;
    }

-- where nothing split, nobody is spoken of
none_ends : (S : Run) → empty (splits_of S.log) ≡ true → split_ends S ≡ []
unfolding split_ends each
none_ends S e = by (splits_of S.log) e
  where
    by : (l : List (ℕ × ℕ)) → empty l ≡ true → each (λ (cs : ℕ × ℕ). cs.0 ∷ cs.1 ∷ []) l ≡ []
    by [] e = refl
    by (cs ∷ l) e = absurd (false_true e)

nobody : (S : Run) → empty (splits_of S.log) ≡ true → Closed S S
unfolding splits_of each
nobody S e x c =
    ⊎_elim (λ T. absurd (false_true (subst (λ (l : List ℕ). stands T.split l ≡ true) (none_ends S e) T.logged)))
    (λ d. absurd (false_true (subst (λ (l : List Entry). stands x (map (λ (cs : ℕ × ℕ). cs.0) (splits_of l)) ≡ true) (ap (drop (length S.log)) (sym (append-nil S.log)) ∙ drop_front S.log []) d)))
    c

either : (S R : Run) (b : Bool) → empty (splits_of S.log) ≡ b → Closed S R → Closed S (pick b S R)
either S R true e C = nobody S e
either S R false e C = C

cut_closed : (B : Blade) (M : Mesh) → Indexed M → Closed (cut_begins B M) (cut_facets_of B (marked_by Triangles B (start M)))
unfolding cut_facets_of cut_begins split_by_blade marked_by step_to start
cut_closed B M X =
    let S = cut_begins B M in
    let Y : Indexed S.mesh = fold_indexed (split_by_blade Triangles B) (λ R v Z. sides_indexed Triangles v _ R Z) (marked_by Triangles B (start M)) (candidates B M) X in
    either S (split_pinched_of Triangles S) (empty (splits_of S.log)) refl (pass_firm S Y)

crack_closed : (min : ℕ) (is : List ℕ) (M : Mesh) → Indexed M → Closed (crack_begins min is M) (crack Triangles min is (start M))
unfolding crack crack_begins start
crack_closed min is M X =
    let S = crack_begins min is M in
    let Y : Indexed S.mesh = fold_indexed (crack_edge Triangles (loads_of Triangles M) min) (λ R ab Z. edge_indexed Triangles (loads_of Triangles M) min R ab Z) (start M) (torn_ends M is) X in
    let r = pinched_under S Y in
    let R = split_pinched_of Triangles S in
    let W = gone_under S r.0 R r.1.0 (straddlers_indexed Triangles R r.1.0.indexed) in
    either S (remove_straddlers_of Triangles R) (empty (splits_of S.log)) refl (spoken_closed S Y r.0 (remove_straddlers_of Triangles R) W (λ x e. r.1.1 x (inr e)))

-- ---- for the reader: the two runs begin the closing pass there, if anything split, and go on with it

pub cut_begins_lem : (B : Blade) (f : Float) (M : Mesh) → cut Triangles B f (start M) ≡ pick (empty (splits_of (cut_begins B M).log)) (cut_begins B M) (split_pinched_of Triangles (cut_begins B M))
unfolding cut cut_along cut_facets_of cut_begins marked_by step_to start
cut_begins_lem B f M = refl

pub crack_begins_lem : (min : ℕ) (is : List ℕ) (M : Mesh)
    → crack Triangles min is (start M) ≡ pick (empty (splits_of (crack_begins min is M).log)) (crack_begins min is M) (remove_straddlers_of Triangles (split_pinched_of Triangles (crack_begins min is M)))
unfolding crack crack_begins start
crack_begins_lem min is M = refl

-- ---- the calls

-- An accepted cut of triangles, in either edition: every particle that shares a triangle with a split particle or its copy when the closing pass begins, and every copy that
-- the pass makes, is pinned or has all its triangles joined.
pub cut_firm : (sized : Bool) (M : Mesh) (n : ℕ) (line : Line) (f : Float) (L : Rooms) (M' : Mesh) (log : List Entry) (c : Bool)
    → kind_of M ≡ Triangles → cut_call sized M n line f L ≡ done M' log c
    → (x : ℕ) → SpokenOf (cut_begins (blade_of n line) M) log x → Firm M' x
unfolding cut_call cut cut_along
cut_firm sized M n line f L M' log c k e x s =
    let u = unless_done _ _ M' log c e in
    let P = (cut_no_refusal sized M n line f L u.0).0 in
    let B = blade_of n line in
    let d = outcome_done L (cut_facets_of B (marked_by Triangles B (start M))) M' log c (subst (λ (q : Kind). outcome L (cut q B f (start M)) ≡ done M' log c) k u.1) in
    subst (λ (N : Mesh). Firm N x) d.0 (cut_closed B M (accepted_indexed M P.indices) x (subst (λ (l : List Entry). SpokenOf (cut_begins B M) l x) (sym d.1) s))

-- the same for a crack
pub crack_firm : (sized : Bool) (M : Mesh) (is : List ℕ) (min : ℕ) (L : Rooms) (M' : Mesh) (log : List Entry) (c : Bool) → kind_of M ≡ Triangles → crack_call sized M is min L ≡ done M' log c
    → (x : ℕ) → SpokenOf (crack_begins min is M) log x → Firm M' x
unfolding crack_call
crack_firm sized M is min L M' log c k e x s =
    let u = unless_done _ _ M' log c e in
    let P = no_refusal sized M true (triangles_lent L M) u.0 in
    let d = outcome_done L (crack Triangles min is (start M)) M' log c (subst (λ (q : Kind). outcome L (crack q min is (start M)) ≡ done M' log c) k u.1) in
    subst (λ (N : Mesh). Firm N x) d.0 (crack_closed min is M (accepted_indexed M P.indices) x (subst (λ (l : List Entry). SpokenOf (crack_begins min is M) l x) (sym d.1) s))
