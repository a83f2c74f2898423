-- The two halves of a split make the whole step. Assumes nothing.
use Prim.Native.Nat.{ℕ, ◌+◌, ◌≤◌}
use native.Mathlib.Omega.{arith}
use mathlib.Core.Path.{◌≡◌, sym, ◌∙◌, ap, subst}
use mathlib.Core.Bool.{Bool, true, false}
use mathlib.Core.List.{List, [], map, ◌++◌, append-nil, map-append}
use lib.ListN.{length, length-append, length-map}
use Rattle.lists.specs.Lists.{pick}
use Rattle.model.specs.Mesh.{Mesh}
use Rattle.model.specs.Elements.{Kind}
use Rattle.model.specs.Run.{Entry, Run}
use Rattle.model.specs.Split.{Opening, opening_of, splits?, at_longest, settled, straddles, split_entries, gone_entries, split_made, split_step, split_by_sides_of}
use Rattle.model.specs.Calls.{too_small, first_fault}
use Rattle.mesh.specs.Log.{World, Words, words_of, world_of}
use Rattle.mesh.specs.Given.{as_rooms}
use Rattle.mesh.specs.declared.Counts.{Counts}
use Rattle.mesh.specs.declared.Rooms.{Rooms}
use Rattle.work.specs.Working.{Within, Went, Works}
use Rattle.split.specs.Steps.{GrewTo, logged_of, settled_world, SettledTo, need_of, split_world, Stepped}
use Rattle.work.proofs.Runs.{room_enough, need_behind, StepTold, went_step}
use Rattle.work.specs.Ran.{Ran}
use Rattle.std.specs.Prelude.{Ok, Err}
use Rattle.mesh.specs.declared.refusals.Refusal.{Refusal}

-- the first half lacks room: so does the step
pub stepped_lacking : (K : Kind) (O : Opening) (L : Rooms) (extra : ℕ) (k : Counts) (W : World) (at₁ : Counts → Mesh) (at : Counts → World) (c : Refusal) → GrewTo K O L k W.mesh at₁ (Err c) → Stepped K O L extra W at (Err c)
unfolding need_of settled
stepped_lacking K O L extra k W at₁ at c G = (G.0 _ _, G.1)

-- the mesh at its longest, with the log as it was
abbrev pub longest_world : Kind → Opening → World → World
longest_world K O W = record { mesh = at_longest K O W.mesh; log = W.log }

-- how much is logged
settled_log : (K : Kind) (O : Opening) (W : World) → length (settled_world K O W).log ≡ length W.log + length (logged_of K O W.mesh)
unfolding settled_world
settled_log K O W = length-append W.log _ ∙ ap (λ (m : ℕ). length W.log + m) (length-map (logged_of K O W.mesh) words_of)

-- the second half tells what the step comes to
pub stepped_settled : (K : Kind) (O : Opening) (L : Rooms) (extra : ℕ) (W : World) (at : Counts → World) (r : Ran) → length (at_longest K O W.mesh).particles ≤ L.particles → length (at_longest K O W.mesh).edges ≤ L.edges
    → ((k : Counts) → length (at k).log ≡ k.log) → SettledTo K O L extra (longest_world K O W) at r → Stepped K O L extra W at r
unfolding need_of settled split_world
stepped_settled K O L extra W at (Err c) p e logged S = (S.0 _ _ p e, S.1)
stepped_settled K O L extra W at (Ok k) p e logged S =
    let log_is = log_length S.3 in
    (room_enough (as_rooms L) _ p e S.0 S.1, S.2, (let h = S.1 in omega arith), S.3)
  where
    log_grown : length (settled_world K O (longest_world K O W)).log ≡ length W.log + length (logged_of K O (at_longest K O W.mesh))
    log_grown = settled_log K O (longest_world K O W)

    log_length : at k ≡ settled_world K O (longest_world K O W) → k.log ≡ length W.log + length (logged_of K O (at_longest K O W.mesh))
    log_length e = sym (logged k) ∙ ap (λ (X : World). length X.log) e ∙ log_grown

-- ---- the step of a run

-- what a split logs, with nothing behind it
abbrev logged_all : Kind → Opening → Mesh → List Entry
logged_all K O A = split_entries O ++ gone_entries (straddles K A O) A.edges ++ []

logged_all_lem : (K : Kind) (O : Opening) (A : Mesh) → logged_all K O A ≡ logged_of K O A
logged_all_lem K O A = append-nil (logged_of K O A)

-- the need of the step behind a run is what the worker looked at
need_is : (K : Kind) (O : Opening) (R : Run) → need_behind R (settled K O (at_longest K O R.mesh)) (logged_all K O (at_longest K O R.mesh)) (length (at_longest K O R.mesh).edges) (length (settled K O (at_longest K O R.mesh)).boundary) ≡ need_of K O 0 (world_of R.mesh R.log)
unfolding need_of
need_is K O R =
    let A = at_longest K O R.mesh in
    let n : length (R.log ++ logged_all K O A) ≡ length (map words_of R.log) + (length (logged_of K O A) + 0)
    = length-append R.log (logged_all K O A) ∙ omega (arith, ap length (logged_all_lem K O A), length-map R.log words_of) in
    ap (λ (m : ℕ). record { particles = length (settled K O A).particles; edges = length A.edges; boundary = length (settled K O A).boundary; log = m }) n

-- the world behind it too
world_is : (K : Kind) (O : Opening) (R : Run) → split_world K O (world_of R.mesh R.log) ≡ world_of (settled K O (at_longest K O R.mesh)) (R.log ++ logged_all K O (at_longest K O R.mesh))
unfolding split_world settled_world
world_is K O R =
    let A = at_longest K O R.mesh in
    ap (λ (l : List Words). record { mesh = settled K O A; log = l })
    (sym (map-append words_of R.log (logged_of K O A)) ∙ ap (λ (l : List Entry). map words_of (R.log ++ l)) (sym (logged_all_lem K O A)))

told : (K : Kind) (O : Opening) (L : Rooms) (R : Run) (at : Counts → World) (r : Ran) → Stepped K O L 0 (world_of R.mesh R.log) at r
    → StepTold L R (settled K O (at_longest K O R.mesh)) (logged_all K O (at_longest K O R.mesh)) (length (at_longest K O R.mesh).edges) (length (settled K O (at_longest K O R.mesh)).boundary) at r
told K O L R at (Err c) S = (ap (too_small (as_rooms L)) (need_is K O R) ∙ S.0, S.1)
told K O L R at (Ok k) S = (ap (too_small (as_rooms L)) (need_is K O R) ∙ S.0, S.1, S.3 ∙ world_is K O R)

-- a step that was told of is the split of any run that the blocks hold
pub made_went : (K : Kind) (O : Opening) (L : Rooms) (W : World) (at : Counts → World) (r : Ran) (R : Run) → W ≡ world_of R.mesh R.log → first_fault (as_rooms L) R.needs ≡ 0
    → Stepped K O L 0 W at r → Went L (split_made [] (λ M. M) K O R) at r
unfolding split_made
made_went K O L W at r R e z S =
    went_step L R _ _ _ _ at r z (told K O L R at r (subst (λ (X : World). Stepped K O L 0 X at r) e S))

-- the worker split v by sides
pub works_split : (K : Kind) (v : ℕ) (sides : List ℕ) (O : Opening) (L : Rooms) (W : World) (at : Counts → World) (r : Ran) → O ≡ opening_of K W.mesh v sides → splits? O W.mesh ≡ true → Stepped K O L 0 W at r
    → Works (split_by_sides_of K v sides) L W at r
unfolding split_by_sides_of split_step
works_split K v sides O L W at r o t S =
    record {
      went = λ R e z.
          let m = ap (λ (X : World). X.mesh) e in
          let q : opening_of K R.mesh v sides ≡ O = ap (λ (M : Mesh). opening_of K M v sides) (sym m) ∙ sym o in
          let y : splits? (opening_of K R.mesh v sides) R.mesh ≡ true = ap (λ (P : Opening). splits? P R.mesh) q ∙ ap (splits? O) (sym m) ∙ t in
          subst (λ (S : Run). Went L S at r)
          (sym (ap (λ (b : Bool). pick b (split_made [] (λ M. M) K (opening_of K R.mesh v sides) R) R) y ∙ ap (λ (P : Opening). split_made [] (λ M. M) K P R) q))
          (made_went K O L W at r R e z S);
    }

-- v does not split, and nothing was done
pub works_unsplit : (K : Kind) (v : ℕ) (sides : List ℕ) (L : Rooms) (at : Counts → World) (k : Counts) → Within k L → splits? (opening_of K (at k).mesh v sides) (at k).mesh ≡ false
    → Works (split_by_sides_of K v sides) L (at k) at (Ok k)
unfolding split_by_sides_of split_step
works_unsplit K v sides L at k w t =
    record {
      went = λ R e z.
          let m = ap (λ (X : World). X.mesh) e in
          let y : splits? (opening_of K R.mesh v sides) R.mesh ≡ false = ap (λ (M : Mesh). splits? (opening_of K M v sides) M) (sym m) ∙ t in
          subst (λ (S : Run). Went L S at (Ok k)) (sym (ap (λ (b : Bool). pick b (split_made [] (λ M. M) K (opening_of K R.mesh v sides) R) R) y)) (z, w, e);
    }
