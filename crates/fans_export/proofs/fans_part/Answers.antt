-- `fans_part` meets its contract: what the split came to is told by its number and the counts. Assumes nothing.
use Rattle.std.proofs.Common.{◌≡◌, ◌≤◌, List, [], ◌∷◌, ℕ, length, set, refl, sym, subst, arith}
use Rattle.mesh.specs.declared.Counts.{Counts}
use Rattle.work.specs.Ran.{Ran}
use Rattle.fans_export.specs.Parts.{CountsAre, Tells}
use Rattle.fans_export.proofs.fans_part.Goals as goal
use Rattle.std.specs.Prelude.{Ok}

-- five counts written into the first five places stand there
written : (q : Counts) (l : List ℕ) → 5 ≤ length l → CountsAre q (set (set (set (set (set l 0 q.particles) 1 q.triangles) 2 q.edges) 3 q.boundary) 4 q.log)
written q [] h = absurd (omega (arith, h))
written q (a ∷ []) h = absurd (omega (arith, h))
written q (a ∷ b ∷ []) h = absurd (omega (arith, h))
written q (a ∷ b ∷ c ∷ []) h = absurd (omega (arith, h))
written q (a ∷ b ∷ c ∷ d ∷ []) h = absurd (omega (arith, h))
written q (a ∷ b ∷ c ∷ d ∷ e ∷ r) h = record { particles = refl; triangles = refl; edges = refl; boundary = refl; log = refl }

-- so they tell a split that ended
told : (ran : Ran) (q : Counts) (l : List ℕ) → ran ≡ Ok q → 5 ≤ length l → Tells ran 0 (set (set (set (set (set l 0 q.particles) 1 q.triangles) 2 q.edges) 3 q.boundary) 4 q.log)
unfolding Tells
told ran q l e h =
    subst (λ (x : Ran). Tells x 0 (set (set (set (set (set l 0 q.particles) 1 q.triangles) 2 q.edges) 3 q.boundary) 4 q.log)) (sym e) (refl, written q l h)

pub returns-in-Err : goal.returns-in-Err
unfolding Tells
returns-in-Err c =
    let S = c.split_tabled-ran in
    (S.result, subst (λ (x : Ran). Tells x c.number.result c.args.counts.now) (sym c.in-Err.is) c.number.ensures, S.ensures.1, S.ensures.0)

pub returns-in-Ok : goal.returns-in-Ok
returns-in-Ok c =
    let S = c.split_tabled-ran in
    (S.result, told S.result c.in-Ok.q c.args.counts.now c.in-Ok.is c.requires.told, S.ensures.1, S.ensures.0)
