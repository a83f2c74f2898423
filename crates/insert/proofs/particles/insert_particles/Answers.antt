use native.Mathlib.Omega.{arith}
use mathlib.Core.Path.{refl, ◌∙◌}
use Rattle.insert.proofs.InsertLaws.{particles_inserted}
use borrow.Author.Rules.{rules}
use Rattle.insert.proofs.particles.insert_particles.Goals as goal

-- src/particles.rt:130:43
pub overflow_add-r : goal.overflow_add-r
overflow_add-r c = let R = c.requires in
    omega (arith, R.room.roots, R.a_in)

-- src/particles.rt:130:37
pub offset_bounds-roots-r : goal.offset_bounds-roots-r
offset_bounds-roots-r c = let R = c.requires in
    omega (arith, R.room.roots, R.a_in)

-- src/particles.rt:130:37
pub bounds-roots-r : goal.bounds-roots-r
bounds-roots-r c = let R = c.requires in
    omega (arith, R.room.roots, R.a_in)

-- src/particles.rt:130:9
pub between-p-requires : goal.between-p-requires
between-p-requires c = let R = c.requires in
    record { a_in = omega (arith, R.room.points, R.a_in); b_in = omega (arith, R.room.points, R.b_in) }

-- src/particles.rt:131:48
pub overflow_add-r-2 : goal.overflow_add-r-2
overflow_add-r-2 c = let R = c.requires in
    omega (arith, R.room.roots, R.b_in)

-- src/particles.rt:131:42
pub offset_bounds-roots-r-2 : goal.offset_bounds-roots-r-2
offset_bounds-roots-r-2 c = let R = c.requires in
    omega (arith, R.room.roots, R.b_in)

-- src/particles.rt:131:42
pub bounds-roots-r-2 : goal.bounds-roots-r-2
bounds-roots-r-2 c = let R = c.requires in
    omega (arith, R.room.roots, R.b_in)

-- src/particles.rt:131:9
pub between-q-requires : goal.between-q-requires
between-q-requires c = let R = c.requires in
    record { a_in = omega (arith, R.room.points, R.a_in); b_in = omega (arith, R.room.points, R.b_in) }

-- src/particles.rt:132:5
pub lighten-requires : goal.lighten-requires
lighten-requires c = let R = c.requires in
    omega (arith, R.room.points, R.a_in)

-- src/particles.rt:133:5
pub lighten-requires-2 : goal.lighten-requires-2
lighten-requires-2 c = let R = c.requires in
    omega (arith, R.room.points, R.b_in, c.lighten.auto.points)

-- src/particles.rt:134:5
pub append_particle-requires : goal.append_particle-requires
append_particle-requires c = let R = c.requires in
    record { points = omega (arith, R.room.points, c.lighten.auto.points, c.lighten-2.auto.points); roots = omega (arith, R.room.roots) }

-- src/particles.rt:135:5
pub append_particle-requires-2 : goal.append_particle-requires-2
append_particle-requires-2 c = let R = c.requires in
    record { points = omega (arith, R.room.points, c.lighten.auto.points, c.lighten-2.auto.points, c.append_particle.auto.points); roots = omega (arith, R.room.roots, c.append_particle.auto.roots) }

-- src/particles.rt:119:1
pub shape_of-points : goal.shape_of-points
shape_of-points c = c.append_particle-2.auto.points ∙ c.append_particle.auto.points ∙ c.lighten-2.auto.points ∙ c.lighten.auto.points

-- src/particles.rt:119:1
pub shape_of-roots : goal.shape_of-roots
shape_of-roots c = c.append_particle-2.auto.roots ∙ c.append_particle.auto.roots

-- src/particles.rt:119:1
pub returns : goal.returns
returns c = particles_inserted c.args.plan _ _ _ _ _ _ _ _ _ _ _ _ _ _ c.requires c.first_half-first.ensures c.second_half-second.ensures refl refl c.between-p.ensures c.between-q.ensures c.lighten.ensures c.lighten-2.ensures c.lighten.auto.points c.append_particle.ensures c.append_particle-2.ensures
