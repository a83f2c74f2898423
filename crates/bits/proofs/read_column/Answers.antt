-- `bits::read_column` meets its contract. Assumes nothing.
use native.Mathlib.Omega.{arith}
use Prim.Native.Nat.{ℕ, ◌-◌, ◌+◌}
use mathlib.Core.Path.{◌≡◌, ◌∙◌, sym, refl, ap, ap₂, subst}
use mathlib.Core.List.{List, ◌++◌, append_assoc, append-nil}
use lib.ListN.{take, drop, length-set, take-append-drop}
use lib.Seq.{drop-set-lt}
use Rattle.bits.specs.Bits.{bits_of}
use Rattle.bits.specs.Rows.{column_at}
use Rattle.bits.proofs.RowLaws.{fewer, column_turn, column_none, take_store, drop_more}
use Rattle.bits.proofs.read_column.Goals as goal

pub loop-i-init : goal.loop-i-init
loop-i-init c =
    let a = c.args in
    let e : a.n - 0 ≡ a.n = omega arith in
    rw e (omega arith, refl, c.requires.room, c.requires.small, refl, refl)

pub field-requires : goal.field-requires
field-requires c = let f = fewer c.args.n c.loop-i.i c.args.step (omega arith) in record { room = omega arith; narrow = omega arith; small = omega arith }

pub overflow_add-pos : goal.overflow_add-pos
overflow_add-pos c = let f = fewer c.args.n c.loop-i.i c.args.step (omega arith) in omega arith

pub loop-i-preserved : goal.loop-i-preserved
loop-i-preserved c =
    let a = c.args in
    let l = c.loop-i in
    let f = fewer c.args.n c.loop-i.i c.args.step (omega arith) in
    let t = column_turn (bits_of a.s.now) l.pos a.step a.w a.n l.i (omega arith) in (
      omega arith,
      length-set l.out l.i c.field.result ∙ l.invariant.1,
      omega arith,
      omega arith,
      drop-set-lt (l.i + 1) l.out l.i c.field.result (omega arith) ∙ drop_more l.i l.out a.out.now l.invariant.4,
      ap (λ (x : List ℕ). x ++ column_at (bits_of a.s.now) (l.pos + a.step) a.step a.w (a.n - (l.i + 1))) (take_store l.out l.i c.field.result (omega arith))
          ∙ (rw (append_assoc, c.field.ensures.0, ← t) l.invariant.5),
    )

pub shape_of-out : goal.shape_of-out
shape_of-out c = c.loop-i.invariant.1

pub returns : goal.returns
returns c =
    let a = c.args in
    let l = c.loop-i in
    let e : l.i ≡ a.n = omega arith in
    let z = column_none (bits_of a.s.now) l.pos a.step a.w a.n l.i (omega arith) in
    let t : take a.n l.out ≡ column_at (bits_of a.s.now) a.at a.step a.w a.n = rw (← e) (sym (append-nil (take l.i l.out))) ∙ rw z at l.invariant.5 in
    let d : drop a.n l.out ≡ drop a.n a.out.now = subst (λ (m : ℕ). drop m l.out ≡ drop m a.out.now) e l.invariant.4 in
    sym (take-append-drop a.n l.out) ∙ ap₂ ◌++◌ t d
