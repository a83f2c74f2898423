-- A history told by what the C functions promise is a history of the definitions, and its bytes are those of the definitions' log; each image that comes back is accepted again. Assumes nothing.
use Prim.Native.Nat.{ℕ, ◌<◌}
use mathlib.Core.Path.{◌≡◌, refl, sym, ap, ◌∙◌, subst}
use mathlib.Core.Bool.{Bool, not}
use mathlib.Core.List.{List, [], ◌++◌, map}
use native.Mathlib.Omega.{arith}
use lib.ListN.{length}
use Rattle.lists.specs.Lists.{pick, each}
use Rattle.lists.proofs.Sifts.{each_append}
use Rattle.model.specs.Mesh.{Mesh}
use Rattle.model.specs.Run.{Entry}
use Rattle.model.specs.Calls.{refusal}
use Rattle.mesh.specs.Given.{mesh_of}
use Rattle.mesh.specs.Log.{words_of, words_in}
use Rattle.image.specs.Words.{bytes_of}
use Rattle.image.specs.Image.{image_of, image_sized_of}
use Rattle.lineage.specs.History.{Called, History, Afternoon}
use Rattle.lineage.specs.History as H
use Rattle.lineage.proofs.Histories.{line_of_lem, afternoon}
use Rattle.joined.proofs.Again.{by_arguments}
use Rattle.joined.proofs.Histories.{words_join}
use Rattle.imaged.specs.Bytes.{bytes_in}
use Rattle.hosted.specs.Images.{image_in, entries_in, Replying, Images, first, calling, moving}
use Rattle.hosted.proofs.Done.{Next, next_image}

-- a history of the definitions, whose log has these bytes
pub record Told (M₀ M : Mesh) (bytes : List ℕ) : Type 0 where
  pub log : List Entry
  pub history : History M₀ M log
  pub is : bytes ≡ bytes_in (words_in (map words_of log))

-- the bytes of logs one behind the other
bytes_join : (l m : List Entry) → bytes_in (words_in (map words_of (l ++ m))) ≡ bytes_in (words_in (map words_of l)) ++ bytes_in (words_in (map words_of m))
bytes_join l m = ap bytes_in (words_join l m) ∙ each_append bytes_of (words_in (map words_of l)) (words_in (map words_of m))

-- a mesh that a history has come to has a triangle
some_triangle : {M₀ M : Mesh} {log : List Entry} → History M₀ M log → 0 < length M.triangles
some_triangle h = let I = line_of_lem h in omega (arith, I.grown.count, I.begins.some)

pub images_told : {M₀ M : Mesh} {bytes : List ℕ} → Images M₀ M bytes → Told M₀ M bytes
unfolding each
images_told (first b) = record { log = []; history = H.first b; is = refl }
images_told (calling {M = M} s out log h e X) =
    let T = images_told h in
    let N : Next s out log = next_image s out log X (subst (λ (x : Mesh). 0 < length x.triangles) (sym e) (some_triangle T.history)) in
    let C : Called N.rooms M (mesh_of (image_of (image_in out))) N.more = subst (λ (x : Mesh). Called N.rooms x (mesh_of (image_of (image_in out))) N.more) e N.called in
    record {
      log = T.log ++ N.more;
      history = H.calling N.rooms T.history C;
      is = ap (λ (x : List ℕ). x ++ entries_in out log) T.is ∙ (ap (λ (x : List ℕ). bytes_in (words_in (map words_of T.log)) ++ x) N.entries ∙ sym (bytes_join T.log N.more));
    }
images_told (moving h W) = let T = images_told h in record { log = T.log; history = H.moving T.history W; is = T.is }

-- demand 3 of the image that came back: the bytes of the logs are those of a log that all of it holds with
pub images_afternoon : {M₀ M : Mesh} {bytes : List ℕ} → Images M₀ M bytes → (log : List Entry) × ((bytes ≡ bytes_in (words_in (map words_of log))) × Afternoon M₀ M log)
images_afternoon h = let T = images_told h in (T.log, (T.is, afternoon T.history))

-- The image that a C function gave back of an image of triangles is refused by no further function with 1, nor with 2 or 3 for the mesh: for the numbers (2) and the arguments (4) of that function alone, or for room.
pub image_accepted : (s out log : List ℕ) → Replying s out log → 0 < length (mesh_of (image_of s)).triangles
    → (numbers arguments : Bool) → refusal (image_sized_of (image_in out)) (mesh_of (image_of (image_in out))) numbers arguments ≡ pick (not numbers) 2 (pick (not arguments) 4 0)
image_accepted s out log X some numbers arguments =
    let N = next_image s out log X some in
    rw N.sized (by_arguments (mesh_of (image_of (image_in out))) numbers arguments N.accepted.numbers N.accepted.indices)
