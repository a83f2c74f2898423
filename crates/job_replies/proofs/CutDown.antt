-- Laws of local blocks of two sizes: they have room for an image and for rooms, and rooms that are cut down answer the same unless one lacks. Assumes nothing.
use Prim.Native.Nat.{ℕ, ◌*◌, ◌≤◌, min}
use native.Mathlib.Omega.{arith}
use mathlib.Core.Path.{◌≡◌, refl, sym, subst}
use mathlib.Core.Bool.{Bool, true, false}
use mathlib.Core.List.{List}
use lib.ListN.{length}
use lib.Dec.{leb}
use borrow.Author.Tests.{le-leb, lt-leb, leb-true, leb-false}
use Rattle.model.specs.Calls.{triangles_lent}
use Rattle.model.specs.Reads.{Read}
use Rattle.mesh.specs.Given.{mesh_of, sizes, as_rooms}
use Rattle.mesh.specs.Filled.{Fits}
use Rattle.mesh.specs.Widths.{point_columns}
use Rattle.mesh.specs.declared.Counts.{Counts}
use Rattle.mesh.specs.declared.Rooms.{Rooms}
use Rattle.work.specs.Working.{Roomed}
use Rattle.call_frame.proofs.Begun.{mesh_triangles}
use Rattle.mesh_calls.specs.Jobs.{job_numbers, job_call}
use Rattle.mesh_calls.specs.declared.Job.{Job}
use Rattle.image.specs.Image.{image_of, image_sized_of}
use Rattle.image.specs.Small.{middling_image}
use Rattle.image.proofs.Smallness.{middling_loadable}
use Rattle.mesh_replies.proofs.Places.{counts_told, local_fits}
use Rattle.mesh_replies.specs.Both.{BothReplied}
use Rattle.call_words.specs.Rooms.{Limited, lacks_room_of}
use Rattle.job_replies.specs.Outcomes.{OutcomeReplied, with_rooms}
use Rattle.job_replies.specs.Told.{middling_rooms_of, Middling, BlocksRoom}
use Rattle.job_replies.proofs.Roomier.{Roomier, job_roomier, roomier_replied}

-- counts that fit blocks, by another name
pub fits_as : {k m : Counts} {L : _} → Fits m L → k ≡ m → Fits k L
fits_as {k} {m} {L} h e = subst (λ (j : Counts). Fits j L) (sym e) h

-- ---- bytes that stayed as long

pub limited_still : {R : Rooms} {logged logged' : ℕ} → Limited R logged → logged' ≡ logged → Limited R logged'
limited_still {R} h e = subst (Limited R) (sym e) h

pub replied_still : {m : Read (List ℕ)} {ws : List ℕ} {lent logged lent' logged' x : ℕ} {out log : List ℕ} → BothReplied m ws lent' logged' x out log → lent' ≡ lent → logged' ≡ logged → BothReplied m ws lent logged x out log
replied_still {m} {ws} {lent} {logged} {lent'} {logged'} {x} {out} {log} h e f =
    subst (λ (n : ℕ). BothReplied m ws n logged x out log) e (subst (λ (n : ℕ). BothReplied m ws lent' n x out log) f h)

-- ---- large blocks

-- rooms within the limits are within the large blocks, and their log within its words
pub large_roomed : {R : Rooms} {logged : ℕ} → Limited R logged
    → Roomed R (record { points = 1024 * point_columns; roots = 2048; corners = 3072; volumes = 2048; ends = 8192; lengths = 8192; outline = 4096; log = 24576 })
large_roomed h =
    record {
      few_particles = h.particles;
      few_triangles = h.triangles;
      few_edges = h.edges;
      few_boundary = h.boundary;
      few_log = h.log;
      points = omega (arith, h.particles);
      roots = omega (arith, h.particles);
      corners = omega (arith, h.triangles);
      volumes = omega (arith, h.triangles);
      ends = omega (arith, h.edges);
      lengths = omega (arith, h.edges);
      outline = omega (arith, h.boundary);
      log = omega (arith, h.log);
    }

pub large_blocks : (s : List ℕ) {R : Rooms} {logged : ℕ} → image_sized_of s ≡ true → Limited R logged → BlocksRoom s R 8192 2048 3072 2048 8192 4096 24576
large_blocks s h l =
    record {
      image = local_fits s (sizes (image_of s)) h refl;
      rooms = large_roomed l;
      few_points = omega arith;
      few_roots = omega arith;
      few_corners = omega arith;
      few_volumes = omega arith;
      few_ends = omega arith;
      few_outline = omega arith;
      few_words = omega arith;
    }

-- ---- middling blocks

pub middling_roomed : {R : Rooms} → Middling R → Roomed R (record { points = 256 * point_columns; roots = 512; corners = 768; volumes = 512; ends = 2048; lengths = 2048; outline = 1024; log = 3072 })
middling_roomed h =
    record {
      few_particles = omega (arith, h.particles);
      few_triangles = omega (arith, h.triangles);
      few_edges = omega (arith, h.edges);
      few_boundary = omega (arith, h.boundary);
      few_log = omega (arith, h.log);
      points = omega (arith, h.particles);
      roots = omega (arith, h.particles);
      corners = omega (arith, h.triangles);
      volumes = omega (arith, h.triangles);
      ends = omega (arith, h.edges);
      lengths = omega (arith, h.edges);
      outline = omega (arith, h.boundary);
      log = omega (arith, h.log);
    }

-- they have room for a middling image
pub middling_fits : (s : List ℕ) → image_sized_of s ≡ true → middling_image s ≡ true
    → Fits (sizes (image_of s)) (record { points = 256 * point_columns; roots = 512; corners = 768; volumes = 512; ends = 2048; lengths = 2048; outline = 1024; log = 0 })
middling_fits s h f =
    let a = middling_loadable s h f in
    let q = counts_told s (sizes (image_of s)) refl in
    record {
      points = omega (arith, q.0, a.points_room);
      roots = omega (arith, q.0, a.roots_room);
      corners = omega (arith, q.1, a.corners_room);
      volumes = omega (arith, q.1, a.volumes_room);
      ends = omega (arith, q.2, a.ends_room);
      lengths = omega (arith, q.2, a.lengths_room);
      outline = omega (arith, q.3, a.outline_room);
      log = omega arith;
    }

pub middling_blocks : (s : List ℕ) {R : Rooms} → image_sized_of s ≡ true → middling_image s ≡ true → Middling R → BlocksRoom s R 2048 512 768 512 2048 1024 3072
middling_blocks s h f m =
    record {
      image = middling_fits s h f;
      rooms = middling_roomed m;
      few_points = omega arith;
      few_roots = omega arith;
      few_corners = omega arith;
      few_volumes = omega arith;
      few_ends = omega arith;
      few_outline = omega arith;
      few_words = omega arith;
    }

-- ---- rooms that are cut down to them

pub rooms_middling : (R : Rooms) (a b c d e : ℕ) → a ≡ min 256 R.particles → b ≡ min 256 R.triangles → c ≡ min 512 R.edges → d ≡ min 512 R.boundary → e ≡ min 512 R.log
    → ◌≡◌ {A = Rooms} (record { particles = a; triangles = b; edges = c; boundary = d; log = e }) (middling_rooms_of R)
unfolding middling_rooms_of
rooms_middling R a b c d e qa qb qc qd qe = λ i. record { particles = qa i; triangles = qb i; edges = qc i; boundary = qd i; log = qe i }

pub few_middling : (K R : Rooms) → K ≡ middling_rooms_of R → Middling K
unfolding middling_rooms_of
few_middling K R e =
    subst Middling (sym e) (record { particles = omega arith; triangles = omega arith; edges = omega arith; boundary = omega arith; log = omega arith })

pub few_limited : (K R : Rooms) (logged : ℕ) → K ≡ middling_rooms_of R → Limited R logged → Limited K logged
unfolding middling_rooms_of
few_limited K R logged e h =
    subst (λ (Q : Rooms). Limited Q logged) (sym e)
    (record {
      particles = omega (arith, h.particles);
      triangles = omega (arith, h.triangles);
      edges = omega (arith, h.edges);
      boundary = omega (arith, h.boundary);
      log = omega (arith, h.log);
      entries = omega (arith, h.entries);
    })

middling_roomier : (R : Rooms) → Roomier (as_rooms (middling_rooms_of R)) (as_rooms R)
unfolding middling_rooms_of
middling_roomier R = record { particles = omega arith; edges = omega arith; boundary = omega arith; log = omega arith }

-- a number within the cut is within a room that is cut down where it is within the room
cut_within : (n m t : ℕ) → n ≤ m → leb n (min m t) ≡ leb n t
cut_within n m t h = by (leb n t) refl
  where
    by : (b : Bool) → leb n t ≡ b → leb n (min m t) ≡ b
    by true e = le-leb n (min m t) (let l = leb-true n t e in omega (arith, l, h))
    by false e = lt-leb n (min m t) (let l = leb-false n t e in omega (arith, l))

-- the triangles of a middling image have room in both or in none
middling_lent : (s : List ℕ) (R : Rooms) → image_sized_of s ≡ true → middling_image s ≡ true → triangles_lent (as_rooms (middling_rooms_of R)) (mesh_of (image_of s)) ≡ triangles_lent (as_rooms R) (mesh_of (image_of s))
unfolding middling_rooms_of
middling_lent s R h f =
    let a = middling_fits s h f in
    cut_within (length (mesh_of (image_of s)).triangles) 256 R.triangles (omega (arith, mesh_triangles (image_of s), a.corners))

-- So a reply in them that says of no room that it lacks is the reply.
pub middling_replied :
    (j : Job) (ls s rooms : List ℕ) (K R : Rooms) (lent logged x : ℕ) (out log : List ℕ) → image_sized_of s ≡ true → middling_image s ≡ true → K ≡ middling_rooms_of R
    → OutcomeReplied (with_rooms s rooms (job_numbers j) (job_call j ls (image_sized_of s) (mesh_of (image_of s)) (as_rooms K))) lent logged x out log → lacks_room_of x ≡ false
    → OutcomeReplied (with_rooms s rooms (job_numbers j) (job_call j ls (image_sized_of s) (mesh_of (image_of s)) (as_rooms R))) lent logged x out log
middling_replied j ls s rooms K R lent logged x out log h f e a z =
    roomier_replied lent logged x out log s rooms (job_numbers j) _ _ (job_roomier (as_rooms (middling_rooms_of R)) (as_rooms R) (middling_roomier R) ls (image_sized_of s) (mesh_of (image_of s)) (middling_lent s R h f) j) z
    (subst (λ (Q : Rooms). OutcomeReplied (with_rooms s rooms (job_numbers j) (job_call j ls (image_sized_of s) (mesh_of (image_of s)) (as_rooms Q))) lent logged x out log) e a)
