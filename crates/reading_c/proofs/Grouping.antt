-- Laws of the question for groups: the entry's answer and table, told, are the answer. Assumes nothing.
use Prim.Native.Nat.{ℕ, zero, suc, ◌-◌, ◌≤◌, ◌<◌}
use native.Mathlib.Omega.{arith}
use mathlib.Core.Path.{◌≡◌, refl, sym, ap, ◌∙◌}
use mathlib.Core.Logic.{⊎_elim}
use mathlib.Core.Bool.{Bool, true, false, ◌&&◌}
use mathlib.Core.List.{List, ◌∷◌}
use lib.ListN.{length, take, replicate, length-take}
use lib.Dec.{leb}
use lib.Seq.{take_at}
use borrow.Author.Tests.{le-leb}
use Rattle.lists.specs.Lists.{pick, padded}
use Rattle.mesh.specs.Refused.{answer_in}
use Rattle.model.specs.Mesh.{Mesh}
use Rattle.model.specs.Elements.{kind_of, fan_of, grid_of}
use Rattle.model.specs.Calls.{sides_ok, refusal}
use Rattle.model.specs.Reads.{Read, refused, value, or_refused, grouped, groups_call}
use Rattle.mesh.specs.Given.{mesh_of}
use Rattle.std.specs.Prelude.{Result}
use Rattle.mesh.specs.declared.refusals.Refusal.{Refusal}
use Rattle.readings.specs.Answers.{placed_in, group_count, groups_shown, GroupsAnswered}
use Rattle.readings.proofs.Grouped.{groups_long, placed_is}
use Rattle.std.specs.Prelude.{Ok, Err}
use Rattle.image.specs.Image.{image_of, image_sized_of}
use Rattle.reading_replies.specs.Replies.{Replied, groups_words}
use Rattle.reading_replies.specs.Given.{groups_told, SmallCode}
use Rattle.reading_c.specs.Capped.{Capped}
use Rattle.replies.proofs.Saying.{refusal_small, replied_as}
use Rattle.reading_c.proofs.Siding.{capped_sides, refused_either}

-- a front is no longer than it is asked to be
pub front_few : (n : ℕ) (l : List ℕ) → n ≤ 2049 → length (take n l) ≤ 2049
front_few n l h = omega (arith, length-take n l)

pub few_front : (n : ℕ) (l : List ℕ) → n ≤ 32 → length (take n l) ≤ 128
few_front n l h = omega (arith, length-take n l)

-- the same of the front of a table that has a place for each
pub front_placed : (n places : ℕ) (l : List ℕ) → n ≤ places → places ≤ 2049 → length (take n l) ≤ 2049
front_placed n places l h m = front_few n l (omega arith)

-- ---- the entry on a capped list

placed_or : (lent c : ℕ) (gs : List ℕ × ℕ) → length gs.0 ≤ lent → placed_in lent (or_refused c gs) ≡ or_refused c gs
placed_or lent zero gs h = ap (λ (b : Bool). pick b (value gs) (refused 4)) (le-leb (length gs.0) lent h)
placed_or lent (suc c) gs h = refl

-- a table that has a place for each side is no bad argument
placed_call : (z : Bool) (M : Mesh) (v : ℕ) (t : List ℕ) (places : ℕ) → length t ≤ places → placed_in places (groups_call z M v t) ≡ groups_call z M v t
unfolding groups_call grid_of
placed_call z M v t places h = let l = groups_long (grid_of (kind_of M) v (fan_of (kind_of M) M v) t) in placed_or places (refusal z M true (sides_ok M v t)) _ (omega (arith, l, h))

calls_refused : (z : Bool) (M : Mesh) (v : ℕ) (t sides : List ℕ) → sides_ok M v t ≡ false → sides_ok M v sides ≡ false → groups_call z M v t ≡ groups_call z M v sides
unfolding groups_call
calls_refused z M v t sides e f =
    let x : List ℕ × ℕ = grouped (grid_of (kind_of M) v (fan_of (kind_of M) M v) t) in
    let y : List ℕ × ℕ = grouped (grid_of (kind_of M) v (fan_of (kind_of M) M v) sides) in
    ap (λ (b : Bool). or_refused (refusal z M true b) x) e ∙ refused_either z M x y ∙ sym (ap (λ (b : Bool). or_refused (refusal z M true b) y) f)

pub groups_capped : (s : List ℕ) (v r : ℕ) (sides t : List ℕ) → image_sized_of s ≡ true → Capped (length sides) 2049 r → t ≡ take r sides
    → groups_call (image_sized_of s) (mesh_of (image_of s)) v t ≡ groups_call (image_sized_of s) (mesh_of (image_of s)) v sides
groups_capped s v r sides t h c e =
    ⊎_elim
    (λ y. ap (λ (l : List ℕ). groups_call (image_sized_of s) (mesh_of (image_of s)) v l) y)
    (λ y. calls_refused (image_sized_of s) (mesh_of (image_of s)) v t sides y.0 y.1)
    (capped_sides s v r sides t h c e)

-- ---- the reply

-- an answer that says what the model's does is told by the same words
words_told : Read ℕ → List ℕ → Read (List ℕ)
words_told (refused n) ws = refused n
words_told (value n) ws = value (n ∷ ws)

told_by : (a : Result ℕ Refusal) (ws : List ℕ) → groups_told a ws ≡ words_told (answer_in a) ws
unfolding words_told
told_by (Ok n) ws = refl
told_by (Err e) ws = refl

told_or : (c : ℕ) (gs : List ℕ × ℕ) (n places : ℕ) → length gs.0 ≡ n → words_told (group_count (or_refused c gs)) (take n (padded places 0 (groups_shown (or_refused c gs)))) ≡ groups_words (or_refused c gs)
unfolding padded words_told
told_or zero gs n places e = ap (λ (l : List ℕ). value (gs.1 ∷ l)) (take_at gs.0 (replicate (places - length gs.0) 0) n e)
told_or (suc c) gs n places e = refl

call_told : (z : Bool) (M : Mesh) (v : ℕ) (t : List ℕ) (n places : ℕ) → length t ≡ n → words_told (group_count (groups_call z M v t)) (take n (padded places 0 (groups_shown (groups_call z M v t)))) ≡ groups_words (groups_call z M v t)
unfolding groups_call grid_of
call_told z M v t n places e = told_or (refusal z M true (sides_ok M v t)) _ n places (groups_long (grid_of (kind_of M) v (fan_of (kind_of M) M v) t) ∙ e)

small_or : (c : ℕ) (gs : List ℕ × ℕ) (ws : List ℕ) → c < 256 → SmallCode (words_told (group_count (or_refused c gs)) ws)
unfolding words_told
small_or zero gs ws h = omega arith
small_or (suc c) gs ws h = h

pub groups_small : (z : Bool) (M : Mesh) (v : ℕ) (t : List ℕ) (lent : ℕ) (a : Result ℕ Refusal) (table ws : List ℕ) → GroupsAnswered (groups_call z M v t) lent a table → SmallCode (groups_told a ws)
groups_small z M v t lent a table ws A =
    rw (told_by a ws) (rw (A.answer ∙ ap group_count (placed_is z M v t lent)) (small_or _ _ ws (refusal_small z M true (sides_ok M v t && leb (length t) lent))))

-- sides that are no more than the table has places
pub groups_told_lem : (z : Bool) (M : Mesh) (v : ℕ) (t : List ℕ) (places lent r : ℕ) (a : Result ℕ Refusal) (table out : List ℕ) → length t ≤ places → GroupsAnswered (groups_call z M v t) places a table
    → Replied (groups_told a (take (length t) table)) lent r out → Replied (groups_words (groups_call z M v t)) lent r out
groups_told_lem z M v t places lent r a table out m A h =
    let o : Read (List ℕ × ℕ) = groups_call z M v t in
    let q : placed_in places o ≡ o = placed_call z M v t places m in
    replied_as (groups_told a (take (length t) table)) _ lent r out
    (told_by a (take (length t) table) ∙ ap (λ (x : Read ℕ). words_told x (take (length t) table)) (A.answer ∙ ap group_count q)
    ∙ ap (λ (x : List ℕ). words_told (group_count o) (take (length t) x)) (A.table_is ∙ ap (λ (x : Read (List ℕ × ℕ)). padded places 0 (groups_shown x)) q)
    ∙ call_told z M v t (length t) places refl) h
