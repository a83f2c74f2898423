-- The theorems on histories of triangle meshes: `traced_always`, `held_always`, `copies_held`, `particles_bounded`, `afternoon`, `runs_bounded`, `room_suffices`. Assumes nothing.
use mathlib.Core.Path.{◌≡◌, refl, sym, ◌∙◌, ap, subst, ap₂}
use mathlib.Core.Bool.{Bool, true, false, not, ◌&&◌}
use mathlib.Core.Logic.{◌⊎◌, ⊎_elim}
use mathlib.Core.List.{List, [], ◌∷◌, ◌++◌, map, map-map}
use Prim.Native.Nat.{ℕ, zero, suc, ◌+◌, ◌*◌, ◌<◌, ◌≤◌}
use native.Mathlib.Omega.{arith}
use borrow.Author.Tests.{le-ltb}
use lib.Dec.{eqb, ltb}
use lib.ListN.{length, get_or, length-append}
use lib.Ieee.{Float}
use Rattle.lists.specs.Lists.{pick, stands, each, up_to}
use Rattle.lists.proofs.Sifts.{stands_append, up_to_at, or_true, and_true, map_ext}
use Rattle.float.proofs.Picks.{or_yes_1}
use Rattle.model.specs.Mesh.{Triangle, Mesh, blank_triangle}
use Rattle.model.specs.Valid.{numbers_fit_of, indices_fit_of}
use Rattle.model.specs.Elements.{Kind, Triangles, kind_by, kind_of, straps?, corners_of}
use Rattle.model.specs.Run.{Entry, Need, Rooms, Run, start, split_of, splits_of}
use Rattle.model.specs.Split.{split_by_sides_of}
use Rattle.model.specs.Pieces.{remove_straddlers_of}
use Rattle.model.specs.Cut.{Line as BladeLine, cut}
use Rattle.model.specs.Crack.{crack}
use Rattle.model.specs.Calls.{blade_ok, fraction_ok, sides_ok, triangles_lent, refusal, known, whole_mesh, whole_line, edition_refusal, blade_of, first_of, cut_refusal, too_small, first_fault, Outcome, refused, done, fitted, outcome, unless, cut_call, crack_call, split_call, straddlers_call}
use Rattle.model.specs.Trace.{All, origin_of, Sound, Threes, traced_back, Hold, Kept}
use Rattle.model_laws.proofs.Rows.{named_below}
use Rattle.model_laws.proofs.Traced.{origin_append, start_traced}
use Rattle.model_laws.proofs.Kept.{accepted_sound, outcome_done, unless_done, no_refusal, cut_keeps, crack_keeps, split_keeps, straddlers_keep}
use Rattle.model_laws.proofs.Splitting.{Sided, sides_accepted}
use Rattle.model_laws.proofs.Laws.{false_true, all_over, all_append, each_append}
use Rattle.lineage.specs.History.{Begins, Moved, History, Called, cutting, cracking, splitting, removing, first, calling, moving, roots_of, Lasting, in_use, most_particles, Afternoon, EveryRun, Within, Unrefused, Roomy}
use Rattle.lineage.proofs.Induction.{sides_kept, cut_kept, crack_kept, Kept as KeptBySteps}
use Rattle.lineage.proofs.Counting.{among, among_room, among_most}
use Rattle.lineage.proofs.Grown.{Grown, grown_same, grown_then, column, roots_by, roots_by_lem, Growing, growing_start, growing_kept}
use Rattle.lineage.proofs.Moves.{moved_grown, by_corners}
use Rattle.lists.proofs.Truths.{or_cases}
use Rattle.model_laws.proofs.Exactly.{map_on}

-- ---- the runs of the calls on triangles

pub kind_of_lem : (M : Mesh) → 0 < length M.triangles → kind_of M ≡ Triangles
unfolding kind_of kind_by
kind_of_lem M u = by M.triangles u _
  where
    by : (ts : List Triangle) → 0 < length ts → (s : Bool) → kind_by ts s ≡ Triangles
    by [] u s = absurd (let z : 0 < 0 = u in omega arith)
    by (t ∷ ts) u s = refl

-- any property that each step keeps holds of the run of each call
every_run : (P : Run → Type 0) → KeptBySteps P → (M : Mesh) → P (start M) → kind_of M ≡ Triangles → EveryRun P M
unfolding start
every_run P K M p k =
    record {
      cuts = λ B f. subst (λ (q : Kind). P (cut q B f (start M))) (sym k) (cut_kept P K B f (start M) p);
      cracks = λ is min. subst (λ (q : Kind). P (crack q min is (start M))) (sym k) (crack_kept P K min is (start M) p);
      splits =
          λ v sides e.
          let S = subst (λ (q : Kind). Sided q M v sides) k (sides_accepted M v sides e) in
          subst (λ (q : Kind). P (split_by_sides_of q v sides (start M))) (sym k) (sides_kept P K (start M) p v sides S.every S.two);
      straddlers = subst (λ (q : Kind). P (remove_straddlers_of q (start M))) (sym k) (K.straddlers (start M) p);
    }

-- and so does what follows from it
run_over : (P Q : Run → Type 0) (M : Mesh) → ((R : Run) → P R → Q R) → EveryRun P M → EveryRun Q M
run_over P Q M f E = record { cuts = λ B g. f _ (E.cuts B g); cracks = λ is min. f _ (E.cracks is min); splits = λ v sides e. f _ (E.splits v sides e); straddlers = f _ E.straddlers }

-- the number of a refusal
numbered : Outcome → ℕ
numbered (refused n) = n
numbered (done M l c) = 0

-- a run that is done lacks no room
outcome_room : (L : Rooms) (R : Run) (M : Mesh) (l : List Entry) (c : Bool) → outcome L R ≡ done M l c → first_fault L R.needs ≡ 0
unfolding outcome numbered
outcome_room L R M l c e = by (first_fault L R.needs) e
  where
    by : (n : ℕ) → fitted n R ≡ done M l c → n ≡ 0
    by zero d = refl
    by (suc n) d = ap numbered d

-- what a run that lacks no room has, by what each step keeps, the mesh and the log of a call that is done have
module _ (P : Run → Type 0) (K : KeptBySteps P) (M : Mesh) (p : P (start M)) (k : kind_of M ≡ Triangles) (L : Rooms) (Q : Mesh → List Entry → Type 0) (has : (R : Run) → P R → first_fault L R.needs ≡ 0 → Q R.mesh R.log) where
  run_has : (R : Run) (M' : Mesh) (l : List Entry) (c : Bool) → P R → outcome L R ≡ done M' l c → Q M' l
  run_has R M' l c r e =
      let d = outcome_done L R M' l c e in
      subst (Q M') d.1 (subst (λ (N : Mesh). Q N R.log) d.0 (has R r (outcome_room L R M' l c e)))

  pub called_run : {M' : Mesh} {more : List Entry} → Called L M M' more → Q M' more
  unfolding cut_call crack_call split_call straddlers_call
  called_run (cutting {M'} {more} {c} n B f e) = run_has _ M' more c ((every_run P K M p k).cuts (blade_of n B) f) (unless_done (cut_refusal true M n B f L) _ M' more c e).1
  called_run (cracking {M'} {more} {c} is min e) = run_has _ M' more c ((every_run P K M p k).cracks is min) (unless_done (refusal true M true (triangles_lent L M)) _ M' more c e).1
  called_run (splitting {M'} {more} {c} v sides e) =
      let u = unless_done (refusal true M true (sides_ok M v sides && triangles_lent L M)) _ M' more c e in
      let A = no_refusal true M true (sides_ok M v sides && triangles_lent L M) u.0 in
      run_has _ M' more c ((every_run P K M p k).splits v sides (and_true (sides_ok M v sides) (triangles_lent L M) A.given).0) u.1
  called_run (removing {M'} {more} {c} e) = run_has _ M' more c (every_run P K M p k).straddlers (unless_done (refusal true M true (triangles_lent L M)) _ M' more c e).1

-- a call that is done keeps the triangles
called_keeps : (L : Rooms) (M : Mesh) → kind_of M ≡ Triangles → {M' : Mesh} {more : List Entry} → Called L M M' more → Kept M M' more
called_keeps L M k (cutting {M'} {more} {c} n B f e) = cut_keeps true M n B f L M' more c k e
called_keeps L M k (cracking {M'} {more} {c} is min e) = crack_keeps true M is min L M' more c k e
called_keeps L M k (splitting {M'} {more} {c} v sides e) = split_keeps true M v sides L M' more c k e
called_keeps L M k (removing {M'} {more} {c} e) = straddlers_keep true M L M' more c k e

-- ---- what a history keeps

-- from M₀ to the mesh now
pub record Line (M₀ M : Mesh) (log : List Entry) : Type 0 where
  pub begins : Begins M₀
  pub grown : Grown M₀ M
  pub back : map (traced_back (splits_of log)) M.triangles ≡ map corners_of M₀.triangles
  pub copies : All (λ (cs : ℕ × ℕ). Hold cs.0 M.triangles) (splits_of log)

module _ {M₀ M : Mesh} {log : List Entry} (I : Line M₀ M log) where
  pub kind_now : kind_of M ≡ Triangles
  kind_now = kind_of_lem M (let u = I.begins.some in let c = I.grown.count in omega arith)

  started : Growing M (start M)
  started = growing_start M I.grown.sound

  traced_then : (S S' : List (ℕ × ℕ)) (t : Triangle) → traced_back (S ++ S') t ≡ map (origin_of S) (traced_back S' t)
  traced_then S S' t = map_ext (origin_of (S ++ S')) (λ x. origin_of S (origin_of S' x)) (origin_append S S') (corners_of t) ∙ sym (map-map (origin_of S) (origin_of S') (corners_of t))

  splits_then : (more : List Entry) → splits_of (log ++ more) ≡ splits_of log ++ splits_of more
  unfolding splits_of
  splits_then more = each_append split_of log more

  -- a call goes on
  line_call : (M' : Mesh) (more : List Entry) → Kept M M' more → Grown M M' → Line M₀ M' (log ++ more)
  line_call M' more K G =
      let S = splits_of log in
      let S' = splits_of more in
      record {
        begins = I.begins;
        grown = grown_then I.grown G;
        back =
            ap (λ (l : List (ℕ × ℕ)). map (traced_back l) M'.triangles) (splits_then more) ∙ map_ext (traced_back (S ++ S')) (λ t. map (origin_of S) (traced_back S' t)) (traced_then S S') M'.triangles
            ∙ sym (map-map (map (origin_of S)) (traced_back S') M'.triangles) ∙ ap (map (map (origin_of S))) K.back ∙ map-map (map (origin_of S)) corners_of M.triangles ∙ I.back;
        copies =
            subst (λ (l : List (ℕ × ℕ)). All (λ (cs : ℕ × ℕ). Hold cs.0 M'.triangles) l) (sym (splits_then more))
            (all_append (λ (cs : ℕ × ℕ). Hold cs.0 M'.triangles) S S'
            (all_over (λ (cs : ℕ × ℕ). Hold cs.0 M.triangles) (λ (cs : ℕ × ℕ). Hold cs.0 M'.triangles) (λ cs h. G.kept cs.0 h) S I.copies)
            K.copies);
      }

  line_called : (L : Rooms) (M' : Mesh) (more : List Entry) → Called L M M' more → Line M₀ M' (log ++ more)
  line_called L M' more C = let k = kind_now in line_call M' more (called_keeps L M k C) (called_run (Growing M) (growing_kept M) M started k L (λ N l. Grown M N) (λ R G z. G.grown) C)

  line_moved : (M' : Mesh) → Moved M M' → Line M₀ M' log
  line_moved M' W =
      let G = moved_grown M M' W I.grown.sound in
      record {
        begins = I.begins;
        grown = grown_then I.grown G;
        back = by_corners (map (origin_of (splits_of log))) M.triangles M'.triangles W.corners ∙ I.back;
        copies = all_over (λ (cs : ℕ × ℕ). Hold cs.0 M.triangles) (λ (cs : ℕ × ℕ). Hold cs.0 M'.triangles) (λ cs h. G.kept cs.0 h) (splits_of log) I.copies;
      }

line_first : (M : Mesh) → Begins M → Line M M []
unfolding start splits_of each origin_of
line_first M b = let S = accepted_sound M b.indices in record { begins = b; grown = grown_same M S; back = (start_traced M S).back; copies = tt }

pub line_of_lem : {M₀ M : Mesh} {log : List Entry} → History M₀ M log → Line M₀ M log
line_of_lem (first b) = line_first _ b
line_of_lem (calling L h C) = line_called (line_of_lem h) L _ _ C
line_of_lem (moving h W) = line_moved (line_of_lem h) _ W

-- ---- traced and held

root_own : (col : List ℕ) (n : ℕ) → col ≡ up_to n → (t : Triangle) → Sound n t → roots_by col t ≡ corners_of t
root_own col n e t S =
    let r : (x : ℕ) → x < n → get_or col x 0 ≡ x = λ x u. ap (λ (l : List ℕ). get_or l x 0) e ∙ up_to_at n x u in
    by r t.corners (named_below n t.corners S.apart)
  where
    by : ((x : ℕ) → x < n → get_or col x 0 ≡ x) → (l : List ℕ) → All (λ x. x < n) l → map (λ x. get_or col x 0) l ≡ l
    by r [] h = refl
    by r (x ∷ l) h = ap₂ (λ (y : ℕ) (s : List ℕ). y ∷ s) (r x h.0) (by r l h.1)

-- After any history every triangle has three different particles, stands in its place, and is the triangle that it was: traced back through the logs, and by the roots.
pub traced_always : {M₀ M : Mesh} {log : List Entry} → History M₀ M log → Lasting M₀ M log
traced_always {M₀} {M} h =
    let I = line_of_lem h in
    let n = length M₀.particles in
    record {
      sound = I.grown.sound;
      back = I.back;
      roots =
          I.grown.roots
          ∙ map_on (Sound n) (roots_of M₀) corners_of (λ t S. roots_by_lem M₀ t ∙ root_own (column M₀) n I.begins.roots t S) M₀.triangles (accepted_sound M₀ I.begins.indices);
    }

-- Every copy in the logs belongs to a triangle.
pub held_always : {M₀ M : Mesh} {log : List Entry} → History M₀ M log → All (λ (cs : ℕ × ℕ). Hold cs.0 M.triangles) (splits_of log)
held_always h = (line_of_lem h).copies

-- Every particle past the first number belongs to a triangle, be it told of in a log or not.
pub copies_held : {M₀ M : Mesh} {log : List Entry} → History M₀ M log → (x : ℕ) → length M₀.particles ≤ x → x < length M.particles → Hold x M.triangles
copies_held h x past there = (line_of_lem h).grown.fresh x past there

-- ---- the number of particles

-- what stands in the corners of some triangle stands in the corners of all, and back
hold_stands : (x : ℕ) (ts : List Triangle) (i : ℕ) → i < length ts → stands x (corners_of (get_or ts i blank_triangle)) ≡ true → stands x (each corners_of ts) ≡ true
unfolding each
hold_stands x [] i u e = absurd (let z : i < 0 = u in omega arith)
hold_stands x (t ∷ ts) zero u e = stands_append x (corners_of t) (each corners_of ts) ∙ or_yes_1 (stands x (each corners_of ts)) e
hold_stands x (t ∷ ts) (suc i) u e = stands_append x (corners_of t) (each corners_of ts) ∙ or_true (stands x (corners_of t)) (stands x (each corners_of ts)) (hold_stands x ts i (omega arith) e)

stands_hold : (x : ℕ) (ts : List Triangle) → stands x (each corners_of ts) ≡ true → Hold x ts
unfolding each
stands_hold x [] e = absurd (false_true e)
stands_hold x (t ∷ ts) e =
    ⊎_elim (λ d. (0, (omega arith, d))) (λ d. let h = stands_hold x ts d in (suc h.0, (let u = h.1.0 in omega arith, h.1.1)))
    (or_cases (stands x (corners_of t)) (stands x (each corners_of ts)) (sym (stands_append x (corners_of t) (each corners_of ts)) ∙ e))

three_each : (ts : List Triangle) → Threes ts → length (each corners_of ts) ≡ 3 * length ts
unfolding each
three_each [] w = refl
three_each (t ∷ ts) w = let h = three_each ts w.1 in let l = length-append (corners_of t) (each corners_of ts) in omega (arith, w.0)

threes_of : (n : ℕ) (ts : List Triangle) → All (Sound n) ts → Threes ts
threes_of n ts S = all_over (Sound n) (λ (t : Triangle). length t.corners ≡ 3) (λ t D. D.many) ts S

-- a mesh that has grown from M₀ has room for its particles in its triangles
pub grown_bounded : (M₀ M : Mesh) → Grown M₀ M → length M.particles + in_use M₀ ≤ length M₀.particles + 3 * length M₀.triangles
unfolding in_use
grown_bounded M₀ M G =
    let n = length M₀.particles in
    let l = each corners_of M.triangles in
    let h : length M.particles + among n (each corners_of M₀.triangles) ≤ n + length l
    = among_room n (length M.particles) (each corners_of M₀.triangles) l G.more
    (λ x u e. let k = G.kept x (stands_hold x M₀.triangles e) in hold_stands x M.triangles k.0 k.1.0 k.1.1)
    (λ x u w. let k = G.fresh x u w in hold_stands x M.triangles k.0 k.1.0 k.1.1) in
    let e : length l ≡ 3 * length M₀.triangles = three_each M.triangles (threes_of (length M.particles) M.triangles G.sound) ∙ ap (λ m. 3 * m) G.count in
    omega arith

pub grown_most : (M₀ M : Mesh) → Grown M₀ M → length M.particles ≤ most_particles M₀
unfolding most_particles
grown_most M₀ M G = let h = grown_bounded M₀ M G in omega arith

-- After any history there are at most as many particles as at first, plus three per triangle, less those in use at first.
pub particles_bounded : {M₀ M : Mesh} {log : List Entry} → History M₀ M log → length M.particles ≤ most_particles M₀
particles_bounded {M₀} {M} h = grown_most M₀ M (line_of_lem h).grown

-- (The difference is one of numbers not below 0: no more particles are in use than three per triangle.)
pub in_use_most : (M : Mesh) → Threes M.triangles → in_use M ≤ 3 * length M.triangles
unfolding in_use
in_use_most M w = let h = among_most (length M.particles) (each corners_of M.triangles) in let e = three_each M.triangles w in omega arith

-- After any history: all of demand 3.
pub afternoon : {M₀ M : Mesh} {log : List Entry} → History M₀ M log → Afternoon M₀ M log
afternoon h = record { lasting = traced_always h; held = copies_held h; bounded = particles_bounded h }

-- ---- room

growing_within : (M₀ M : Mesh) (R : Run) → Grown M₀ M → Growing M R → Within (most_particles M₀) R
growing_within M₀ M R G H =
    let m = most_particles M₀ in
    let u : length R.mesh.particles ≤ m = grown_most M₀ R.mesh (grown_then G H.grown) in
    record { particles = u; needs = all_over (λ (N : Need). N.particles ≤ length R.mesh.particles) (λ (N : Need). N.particles ≤ m) (λ N w. omega arith) R.needs H.needs }

-- The run of any call on the mesh that a history has come to has, and needs in any step, no more particles than that, even if the call is refused for another room.
pub runs_bounded : {M₀ M : Mesh} {log : List Entry} → History M₀ M log → EveryRun (Within (most_particles M₀)) M
runs_bounded {M₀} {M} h =
    let I = line_of_lem h in
    run_over (Growing M) (Within (most_particles M₀)) M (λ R G. growing_within M₀ M R I.grown G) (every_run (Growing M) (growing_kept M) M (started I) (kind_now I))

-- a step that has room for its particles isn't refused for it
small_not : (L : Rooms) (N : Need) → N.particles ≤ L.particles → too_small L N ≡ 5 → ⊥
unfolding too_small
small_not L N u e =
    let p : ltb L.particles N.particles ≡ false = le-ltb L.particles N.particles u in
    by (ltb L.particles N.particles) (ltb L.edges N.edges) (ltb L.boundary N.boundary) (ltb L.log N.log) p e
  where
    by : (a b c d : Bool) → a ≡ false → ◌≡◌ {A = ℕ} (pick a 5 (pick b 6 (pick c 7 (pick d 8 0)))) 5 → ⊥
    by true b c d p e = false_true (sym p)
    by false true c d p e = omega arith
    by false false true d p e = omega arith
    by false false false true p e = omega arith
    by false false false false p e = omega arith

pub fault_not : (L : Rooms) (Ns : List Need) → All (λ (N : Need). N.particles ≤ L.particles) Ns → first_fault L Ns ≡ 5 → ⊥
unfolding first_fault
fault_not L [] h e = omega arith
fault_not L (N ∷ Ns) h e = by (eqb (too_small L N) 0) e (fault_not L Ns h.1)
  where
    by : (b : Bool) → pick b (first_fault L Ns) (too_small L N) ≡ 5 → (first_fault L Ns ≡ 5 → ⊥) → ⊥
    by true d f = f d
    by false d f = small_not L N h.0 d

-- no check before the rooms refuses with 5
refusal_most : (sized : Bool) (M : Mesh) (numbers arguments : Bool) → refusal sized M numbers arguments ≤ 4
unfolding refusal
refusal_most sized M numbers arguments = by sized (numbers_fit_of M && numbers) (indices_fit_of M) arguments
  where
    by : (a b c d : Bool) → pick (not a) 1 (pick (not b) 2 (pick (not c) 3 (pick (not d) 4 0))) ≤ 4
    by false b c d = omega arith
    by true false c d = omega arith
    by true true false d = omega arith
    by true true true false = omega arith
    by true true true true = omega arith

refusal_not : (sized : Bool) (M : Mesh) (numbers arguments : Bool) → refusal sized M numbers arguments ≡ 5 → ⊥
refusal_not sized M numbers arguments e = omega (arith, refusal_most sized M numbers arguments)

-- nor does an edition's own, which is 11 or 12
edition_not : (n : ℕ) (M : Mesh) (B : BladeLine) → edition_refusal n M B ≡ 5 → ⊥
edition_not n M B = by (eqb n 2) (whole_mesh M && whole_line B) (straps? (kind_of M))
  where
    by : (a b c : Bool) → ◌≡◌ {A = ℕ} (pick a (pick (not b) 11 (pick c 12 0)) 0) 5 → ⊥
    by false b c e = omega arith
    by true false c e = omega arith
    by true true true e = omega arith
    by true true false e = omega arith

first_not : (a b : ℕ) → a ≤ 4 → (b ≡ 5 → ⊥) → first_of a b ≡ 5 → ⊥
first_not zero b u w e = w e
first_not (suc a) b u w e = omega (arith, e)

cut_refusal_not : (sized : Bool) (M : Mesh) (n : ℕ) (B : BladeLine) (f : Float) (L : Rooms) → cut_refusal sized M n B f L ≡ 5 → ⊥
cut_refusal_not sized M n B f L =
    let given = known n && fraction_ok f && triangles_lent L M in
    first_not (refusal sized M (blade_ok B) given) (edition_refusal n M B) (refusal_most sized M (blade_ok B) given) (edition_not n M B)

unless_refused : (n : ℕ) (o : Outcome) → (n ≡ 5 → ⊥) → unless n o ≡ refused 5 → (n ≡ 0) × (o ≡ refused 5)
unfolding numbered
unless_refused zero o u e = (refl, e)
unless_refused (suc n) o u e = absurd (u (ap numbered e))

outcome_refused : (L : Rooms) (R : Run) → outcome L R ≡ refused 5 → first_fault L R.needs ≡ 5
unfolding outcome numbered
outcome_refused L R e = by (first_fault L R.needs) e
  where
    by : (n : ℕ) → fitted n R ≡ refused 5 → n ≡ 5
    by zero d = let z : ◌≡◌ {A = ℕ} 0 5 = ap numbered d in absurd (omega arith)
    by (suc n) d = ap numbered d

within_not : (L : Rooms) (m : ℕ) (R : Run) → m ≤ L.particles → Within m R → Unrefused L R
within_not L m R u W = fault_not L R.needs (all_over (λ (N : Need). N.particles ≤ m) (λ (N : Need). N.particles ≤ L.particles) (λ N w. omega arith) R.needs W.needs)

-- With room for that many particles, within the limit as `Rooms` has it, no call of a history is refused for particle room, in any of its steps.
pub room_suffices : {M₀ M : Mesh} {log : List Entry} → History M₀ M log → (L : Rooms) → most_particles M₀ ≤ L.particles → Roomy L M
unfolding cut_call crack_call split_call straddlers_call
room_suffices {M₀} {M} h L u =
    let W = run_over (Within (most_particles M₀)) (Unrefused L) M (λ R w. within_not L (most_particles M₀) R u w) (runs_bounded h) in
    record {
      runs = W;
      cuts = λ sized n B f e. W.cuts (blade_of n B) f (outcome_refused L _ (unless_refused (cut_refusal sized M n B f L) _ (cut_refusal_not sized M n B f L) e).1);
      cracks = λ sized is min e. W.cracks is min (outcome_refused L _ (unless_refused (refusal sized M true (triangles_lent L M)) _ (refusal_not sized M true (triangles_lent L M)) e).1);
      splits = λ sized v sides e.
          let given = sides_ok M v sides && triangles_lent L M in
          let d = unless_refused (refusal sized M true given) _ (refusal_not sized M true given) e in
          let P = no_refusal sized M true given d.0 in
          W.splits v sides (and_true (sides_ok M v sides) (triangles_lent L M) P.given).0 (outcome_refused L _ d.1);
      straddlers = λ sized e. W.straddlers (outcome_refused L _ (unless_refused (refusal sized M true (triangles_lent L M)) _ (refusal_not sized M true (triangles_lent L M)) e).1);
    }
