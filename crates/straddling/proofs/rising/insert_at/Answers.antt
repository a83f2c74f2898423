-- `straddling::rising::insert_at` meets its contract: the library moves the places from `at` on by one, and i is put at `at`. Assumes nothing.
use native.Mathlib.Omega.{arith}
use Prim.Native.Nat.{ℕ, ◌-◌, ◌+◌}
use mathlib.Core.Path.{◌≡◌, ◌∙◌, sym, ap}
use lib.ListN.{get_or, length}
use lib.Seq.{get_or-set_same, get_or-set_other}
use Rattle.straddling.proofs.rising.insert_at.Goals as goal

pub returns : goal.returns
returns c =
    let a = c.args in
    let s = c.copy_within.new.self in
    let m = c.copy_within.ensures.by_index in
    record {
      front = λ k h. get_or-set_other s a.at k a.i 0 (λ e. omega arith) ∙ m.1 k 0 (omega arith);
      here = get_or-set_same s a.at a.i 0 (omega (arith, c.copy_within.ensures.len));
      moved = λ k h l.
          let e : a.at + (k + 1 - (a.at + 1)) ≡ k = omega arith in
          get_or-set_other s a.at (k + 1) a.i 0 (λ e. omega arith) ∙ m.0 (k + 1) 0 (omega arith) (omega arith) ∙ ap (λ (j : ℕ). get_or a.list.now j 0) e;
    }
