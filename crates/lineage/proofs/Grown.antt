-- What a split, a removal of straddlers and the host do to a mesh of triangles: what triangles hold stays held, new particles are held, and the roots of each triangle stay.
-- Assumes nothing.
use mathlib.Core.Path.{◌≡◌, refl, sym, ◌∙◌, ap, ap₂, subst}
use mathlib.Core.Bool.{Bool, true}
use mathlib.Core.Logic.{⊎_elim}
use mathlib.Core.List.{List, [], ◌∷◌, ◌++◌, map, map-map, map-append}
use Prim.Native.Nat.{ℕ, zero, suc, ◌+◌, ◌-◌, ◌<◌, ◌≤◌}
use native.Mathlib.Omega.{arith}
use native.Mathlib.Decide.{ℕ_discrete, dec_lt}
use borrow.Author.Tests.{eq-eqb, ne_eqb}
use lib.Dec.{eqb}
use lib.ListN.{length, get_or, length-map, get_or-append}
use lib.Seq.{get_or-append-add}
use Rattle.lists.specs.Lists.{pick, stands, map_at_of, each, up_to}
use Rattle.lists.specs.Labels.{replaced}
use Rattle.lists.proofs.Stores.{replaced_case, map_at}
use Rattle.lists.proofs.Sifts.{up_to_length, map_ext}
use Rattle.model.specs.Mesh.{Particle, Triangle, Mesh, blank, blank_triangle}
use Rattle.model.specs.Elements.{Triangles, particle, corners_of}
use Rattle.model.specs.Run.{Entry, Need, Run, start, step_to, splits_of, split as split_entry}
use Rattle.model.specs.Split.{Opening, splits?, made, copy_for_of, copy_of, portion, only_at, copied, group_at_of, retargeted, rewired_triangles, at_longest, settled, straddles, split_made, split_step}
use Rattle.model.specs.Pieces.{without_straddlers, straddlers_gone, remove_straddlers_of}
use Rattle.model.specs.Cut.{slackened, marked_by}
use Rattle.model.specs.Crack.{hurt, damaged_at, torn}
use Rattle.model.specs.Trace.{All, Sound, Hold, Held}
use Rattle.model_laws.proofs.Rows.{named_below}
use Rattle.model_laws.proofs.Traced.{Fitting, opening_fits, copies_from, step_splits, splits_here, copied_length, at_below, sound_step, Still, still_torn, all_any, Any}
use Rattle.model_laws.proofs.Holding.{opening_full, split_held}
use Rattle.model_laws.proofs.Laws.{all_map_at, all_over, all_append, tab_all, map_map_at, length_map_at, pick_both}
use Rattle.lineage.specs.History.{roots_of}
use Rattle.lineage.proofs.Induction.{Sided, Behind, nothing_more, tearing, Kept}

-- M' has come from M: as many triangles, of three different particles each; what a triangle held some triangle holds, and each new particle too; roots stay
pub record Grown (M M' : Mesh) : Type 0 where
  pub sound : All (Sound (length M'.particles)) M'.triangles
  pub count : length M'.triangles ≡ length M.triangles
  pub more : length M.particles ≤ length M'.particles
  pub kept : (x : ℕ) → Hold x M.triangles → Hold x M'.triangles
  pub fresh : (x : ℕ) → length M.particles ≤ x → x < length M'.particles → Hold x M'.triangles
  pub roots : map (roots_of M') M'.triangles ≡ map (roots_of M) M.triangles

pub grown_same : (M : Mesh) → All (Sound (length M.particles)) M.triangles → Grown M M
grown_same M S = record { sound = S; count = refl; more = omega arith; kept = λ x h. h; fresh = λ x u w. absurd (omega arith); roots = refl }

pub grown_then : {M M' M'' : Mesh} → Grown M M' → Grown M' M'' → Grown M M''
grown_then {M} {M'} {M''} G H =
    record {
      sound = H.sound;
      count = H.count ∙ G.count;
      more = let a = G.more in let b = H.more in omega arith;
      kept = λ x h. H.kept x (G.kept x h);
      fresh = λ x u w. elim (dec_lt x (length M'.particles)) [ yes l ↦ H.kept x (G.fresh x u l) | no n ↦ H.fresh x (omega arith) w ];
      roots = H.roots ∙ G.roots;
    }

-- ---- the column of roots

-- the roots of all particles, and the roots of a triangle's particles read off such a column
abbrev pub column : Mesh → List ℕ
column M = map (λ (p : Particle). p.root) M.particles

root_at : (ps : List Particle) (x : ℕ) → (get_or ps x blank).root ≡ get_or (map (λ (p : Particle). p.root) ps) x 0
root_at [] x = refl
root_at (p ∷ ps) zero = refl
root_at (p ∷ ps) (suc x) = root_at ps x

abbrev pub roots_by : List ℕ → Triangle → List ℕ
roots_by col t = map (λ x. get_or col x 0) (corners_of t)

pub roots_by_lem : (M : Mesh) (t : Triangle) → roots_of M t ≡ roots_by (column M) t
roots_by_lem M t = map_ext (λ x. (particle M x).root) (λ x. get_or (column M) x 0) (root_at M.particles) (corners_of t)

portion_root : (O : Opening) (g : ℕ) (p : Particle) → (portion O g p).root ≡ p.root
unfolding portion
portion_root O g p = refl

kept_root : (O : Opening) (i : ℕ) (p : Particle) → (only_at O.v (portion O 0) i p).root ≡ p.root
kept_root O i p = pick_both (λ (q : Particle). q.root ≡ p.root) (eqb i O.v) (portion O 0 p) p (portion_root O 0 p) refl

-- the copies have v's root
copied_column : (O : Opening) (ps : List Particle) → map (λ (p : Particle). p.root) (copied O ps) ≡ map (λ (p : Particle). p.root) ps ++ map (λ g. (get_or ps O.v blank).root) (up_to (O.count - 1))
unfolding copied
copied_column O ps =
    let r : Particle → ℕ = λ p. p.root in
    let v = get_or ps O.v blank in
    map-append r (map_at_of (only_at O.v (portion O 0)) ps) (map (λ g. portion O (suc g) v) (up_to (O.count - 1)))
    ∙ ap₂ {C = List ℕ} (λ x y. x ++ y) (map_map_at Any (only_at O.v (portion O 0)) r r (λ i p u. kept_root O i p) ps (all_any ps))
    (map-map r (λ g. portion O (suc g) v) (up_to (O.count - 1)) ∙ map_ext (λ g. (portion O (suc g) v).root) (λ g. v.root) (λ g. portion_root O (suc g) v) (up_to (O.count - 1)))

-- behind a split at v, with w of group g for v, each particle's root is what it was
module _ (col : List ℕ) (n v k r : ℕ) (long : length col ≡ n) (is : get_or col v 0 ≡ r) (low : v < n) where
  -- the column with k copies of v behind it
  pub wide : List ℕ
  wide = col ++ map (λ g. r) (up_to k)

  root_low : (x : ℕ) → x < n → get_or wide x 0 ≡ get_or col x 0
  unfolding wide
  root_low x l = get_or-append col (map (λ g. r) (up_to k)) 0 x (omega arith)

  root_high : (i : ℕ) → i < k → get_or wide (n + i) 0 ≡ r
  unfolding wide
  root_high i l =
      let u : i < length (up_to k) = omega (arith, up_to_length k) in
      subst (λ (m : ℕ). get_or (col ++ map (λ g. r) (up_to k)) (m + i) 0 ≡ r) long (get_or-append-add col (map (λ g. r) (up_to k)) i 0 ∙ map_at (λ g. r) (up_to k) i 0 0 u)

  root_copy : (g : ℕ) → g < suc k → get_or wide (copy_for_of v n g) 0 ≡ r
  root_copy g l =
      elim (ℕ_discrete g 0) [
        | yes e ↦ rw (eq-eqb g 0 e) (root_low v low ∙ is)
        | no m ↦ let d : n + g - 1 ≡ n + (g - 1) = omega arith in rw (ne_eqb g 0 m, d) (root_high (g - 1) (omega arith))
      ]

  root_kept : (g : ℕ) → g < suc k → (c : ℕ) → c < n → get_or wide (replaced v (copy_for_of v n g) c) 0 ≡ get_or col c 0
  root_kept g l c u =
      ⊎_elim (λ a. ap (λ x. get_or wide x 0) a.1 ∙ root_copy g l ∙ sym is ∙ ap (λ x. get_or col x 0) (sym a.0)) (λ a. ap (λ x. get_or wide x 0) a.1 ∙ root_low c u) (replaced_case v (copy_for_of v n g) c)

  pub roots_kept : (g : ℕ) → g < suc k → (t : Triangle) → Sound n t → roots_by wide (retargeted v (copy_for_of v n g) t) ≡ roots_by col t
  roots_kept g l t S = by t.corners (named_below n t.corners S.apart)
    where
      by : (r : List ℕ) → All (λ x. x < n) r → map (λ x. get_or wide x 0) (map (replaced v (copy_for_of v n g)) r) ≡ map (λ x. get_or col x 0) r
      by [] h = refl
      by (x ∷ r) h = ap₂ (λ (y : ℕ) (s : List ℕ). y ∷ s) (root_kept g l x h.0) (by r h.1)

-- ---- what is done behind a split

-- it leaves the triangles, the number of particles, and the roots
pub record Steady (f : Mesh → Mesh) : Type 0 where
  pub still : Still f
  pub column : (M : Mesh) → map (λ (p : Particle). p.root) (f M).particles ≡ map (λ (p : Particle). p.root) M.particles

torn_column : (O : Opening) (xy : ℕ × ℕ) (M : Mesh) → map (λ (p : Particle). p.root) (torn O xy M).particles ≡ map (λ (p : Particle). p.root) M.particles
unfolding torn damaged_at slackened
torn_column O xy M =
    let r : Particle → ℕ = λ p. p.root in
    map_map_at Any _ r r (λ i p u. pick_both (λ (q : Particle). q.root ≡ p.root) (stands i (xy.0 ∷ xy.1 ∷ made O)) (hurt p) p refl refl) M.particles (all_any M.particles)

pub behind_steady : (O : Opening) (f : Mesh → Mesh) → Behind O f → Steady f
behind_steady O f nothing_more = record { still = λ M. (refl, refl); column = λ M. refl }
behind_steady O f (tearing xy) = record { still = still_torn O xy; column = torn_column O xy }

-- ---- one split

module _ (R : Run) (S : All (Sound (length R.mesh.particles)) R.mesh.triangles) (O : Opening) (D : Sided R.mesh O) (yes? : splits? O R.mesh ≡ true) (f : Mesh → Mesh) (Y : Steady f) where
  -- the mesh behind the split
  pub after : Mesh
  after = f (settled Triangles O (at_longest Triangles O R.mesh))

  -- triangle i with its group's copy for v
  abbrev turned : ℕ → Triangle → Triangle
  turned i = retargeted O.v (copy_of O (group_at_of O.fan i))

  fits : Fitting O R.mesh
  fits = subst (λ (o : Opening). Fitting o R.mesh) (sym D.is) (opening_fits Triangles R.mesh D.v D.sides)

  after_triangles : after.triangles ≡ map_at_of turned R.mesh.triangles
  unfolding after settled at_longest rewired_triangles
  after_triangles = (Y.still (settled Triangles O (at_longest Triangles O R.mesh))).0

  after_count : length after.particles ≡ length R.mesh.particles + (O.count - 1)
  unfolding after settled at_longest
  after_count = (Y.still (settled Triangles O (at_longest Triangles O R.mesh))).1 ∙ copied_length O R.mesh.particles

  after_column : column after ≡ column R.mesh ++ map (λ g. (particle R.mesh O.v).root) (up_to (O.count - 1))
  unfolding after settled at_longest
  after_column = Y.column (settled Triangles O (at_longest Triangles O R.mesh)) ∙ copied_column O R.mesh.particles

  two : 2 ≤ O.count
  two = (splits_here O R.mesh yes?).0

  low : O.v < length R.mesh.particles
  low = (splits_here O R.mesh yes?).1

  groups : (i : ℕ) → group_at_of O.fan i < suc (O.count - 1)
  groups i = let h = at_below O.count O.fan i fits.below in let c = two in omega arith

  -- a run of the same mesh with another log
  other : List Entry → Run
  other log = record { mesh = R.mesh; log = log; needs = [] }

  after_held : (log : List Entry) → Held (other log) → All (λ (cs : ℕ × ℕ). Hold cs.0 after.triangles) (splits_of log ++ copies_from O.before O.v (O.count - 1))
  unfolding other split_step split_made step_to after splits_of each
  after_held log H =
      let M = at_longest Triangles O R.mesh in
      let full = subst (λ (o : Opening). (g : ℕ) → g < o.count → (i : ℕ) × ((i < length R.mesh.triangles) × (stands o.v (corners_of (get_or R.mesh.triangles i blank_triangle)) ≡ true) × (group_at_of o.fan i ≡ g))) (sym D.is)
      (opening_full R.mesh D.v D.sides D.every D.two) in
      let split : Held (split_step [] f Triangles O (other log)) = split_held (other log) H O fits.before full [] refl f Y.still in
      let taken : Held (split_made [] f Triangles O (other log)) = subst (λ (b : Bool). Held (pick b (split_made [] f Triangles O (other log)) (other log))) yes? split in
      subst (λ (l : List (ℕ × ℕ)). All (λ (cs : ℕ × ℕ). Hold cs.0 after.triangles) l) (step_splits O (straddles Triangles M O) M.edges log [] refl) taken.copies

  after_kept : (x : ℕ) → Hold x R.mesh.triangles → Hold x after.triangles
  unfolding splits_of each other
  after_kept x h = (after_held (split_entry x 0 ∷ []) (record { copies = (h, tt) })).0

  after_new : (i : ℕ) → i < O.count - 1 → Hold (length R.mesh.particles + i) after.triangles
  unfolding splits_of each other copies_from up_to
  after_new i l =
      subst (λ (m : ℕ). Hold (m + i) after.triangles) fits.before
      (tab_all (λ (cs : ℕ × ℕ). Hold cs.0 after.triangles) (λ g. (O.before + g, O.v)) (O.count - 1) (λ k. k) (after_held [] (record { copies = tt })) i l)

  after_fresh : (x : ℕ) → length R.mesh.particles ≤ x → x < length after.particles → Hold x after.triangles
  after_fresh x u w =
      let e : length R.mesh.particles + (x - length R.mesh.particles) ≡ x = omega arith in
      subst (λ (m : ℕ). Hold m after.triangles) e (after_new (x - length R.mesh.particles) (let c = after_count in omega arith))

  sounds : All (Sound O.before) R.mesh.triangles
  sounds = subst (λ (n : ℕ). All (Sound n) R.mesh.triangles) (sym fits.before) S

  low_before : O.v < O.before
  low_before = let l = low in let e = fits.before in omega arith

  after_sound : All (Sound (length after.particles)) after.triangles
  after_sound =
      let h = all_map_at (Sound O.before) (Sound (O.before + (O.count - 1))) turned (λ i t U. sound_step O.before O.v (O.count - 1) (group_at_of O.fan i) low_before (groups i) t U) R.mesh.triangles sounds in
      let e : O.before + (O.count - 1) ≡ length after.particles = ap (λ m. m + (O.count - 1)) fits.before ∙ sym after_count in
      subst (λ (n : ℕ). All (Sound n) after.triangles) e (subst (λ (ts : List Triangle). All (Sound (O.before + (O.count - 1))) ts) (sym after_triangles) h)

  after_roots : map (roots_of after) after.triangles ≡ map (roots_of R.mesh) R.mesh.triangles
  unfolding wide
  after_roots =
      let r = (particle R.mesh O.v).root in
      let long : length (column R.mesh) ≡ O.before = length-map R.mesh.particles (λ (p : Particle). p.root) ∙ sym fits.before in
      let col = wide (column R.mesh) O.before O.v (O.count - 1) r long (sym (root_at R.mesh.particles O.v)) low_before in
      map_ext (roots_of after) (roots_by col) (λ t. roots_by_lem after t ∙ ap (λ (c : List ℕ). roots_by c t) after_column) after.triangles ∙ ap (map (roots_by col)) after_triangles
      ∙ map_map_at (Sound O.before) turned (roots_by col) (roots_of R.mesh)
      (λ i t U. roots_kept (column R.mesh) O.before O.v (O.count - 1) r long (sym (root_at R.mesh.particles O.v)) low_before (group_at_of O.fan i) (groups i) t U ∙ sym (roots_by_lem R.mesh t)) R.mesh.triangles sounds

  pub after_grown : Grown R.mesh after
  after_grown =
      record {
        sound = after_sound;
        count = ap length after_triangles ∙ length_map_at turned R.mesh.triangles;
        more = let c = after_count in omega arith;
        kept = after_kept;
        fresh = after_fresh;
        roots = after_roots;
      }

-- ---- a run on M

-- the mesh of a run has grown from M, and no step needed more particles than there are
pub record Growing (M : Mesh) (R : Run) : Type 0 where
  pub grown : Grown M R.mesh
  pub needs : All (λ (N : Need). N.particles ≤ length R.mesh.particles) R.needs

needs_more : (R : Run) (M : Mesh) (l : List Entry) (e b : ℕ) → length R.mesh.particles ≤ length M.particles → All (λ (N : Need). N.particles ≤ length R.mesh.particles) R.needs
    → All (λ (N : Need). N.particles ≤ length M.particles) (step_to R M l e b).needs
unfolding step_to
needs_more R M l e b u h =
    all_append (λ (N : Need). N.particles ≤ length M.particles) R.needs _
    (all_over (λ (N : Need). N.particles ≤ length R.mesh.particles) (λ (N : Need). N.particles ≤ length M.particles) (λ N w. omega arith) R.needs h) (omega arith, tt)

pub growing_start : (M : Mesh) → All (Sound (length M.particles)) M.triangles → Growing M (start M)
unfolding start
growing_start M S = record { grown = grown_same M S; needs = (omega arith, tt) }

growing_step : (M : Mesh) (R : Run) (M' : Mesh) (l : List Entry) (e b : ℕ) → Growing M R → Grown R.mesh M' → Growing M (step_to R M' l e b)
unfolding step_to
growing_step M R M' l e b G A = record { grown = grown_then G.grown A; needs = needs_more R M' l e b A.more G.needs }

-- the removal of straddlers leaves particles and triangles
straddlers_grown : (M M' : Mesh) → M'.particles ≡ M.particles → M'.triangles ≡ M.triangles → All (Sound (length M.particles)) M.triangles → Grown M M'
straddlers_grown M M' p t S =
    let n = ap length p in
    record {
      sound = subst (λ (ts : List Triangle). All (Sound (length M'.particles)) ts) (sym t) (subst (λ (ps : List Particle). All (Sound (length ps)) M.triangles) (sym p) S);
      count = ap length t;
      more = omega arith;
      kept = λ x h. subst (λ (ts : List Triangle). Hold x ts) (sym t) h;
      fresh = λ x u w. absurd (omega arith);
      roots = ap₂ {C = List (List ℕ)} (λ (ps : List Particle) (ts : List Triangle). map (λ t. map (λ x. (get_or ps x blank).root) (corners_of t)) ts) p t;
    }

pub growing_kept : (M : Mesh) → Kept (Growing M)
unfolding split_made after marked_by remove_straddlers_of straddlers_gone without_straddlers
growing_kept M =
    record {
      split = λ R G O D y more none f B. growing_step M R _ _ _ _ G (after_grown R G.grown.sound O D y f (behind_steady O f B));
      marks = λ R G B. growing_step M R R.mesh _ _ _ G (grown_same R.mesh G.grown.sound);
      straddlers = λ R G. growing_step M R _ _ _ _ G (straddlers_grown R.mesh _ refl refl G.grown.sound);
    }
