-- `float::root::root` meets its contract. Each case of the bit pattern is a fact of `proofs/Patterns.antt`. Assumes nothing.
use mathlib.Core.Path.{◌≡◌, sym, subst}
use lib.Dec.{T}
use lib.Ieee.{Float, binary32, fits, to_bits, of_bits}
use lib.Ieee.Bits.{to_bits-lt}
use Rattle.std.specs.Prelude.{Option, None, Some}
use Rattle.float.specs.Root.{RootOf, root_of}
use Rattle.float.proofs.Computed.{root_is}
use Rattle.float.proofs.Patterns.{is_a_nan, is_no_nan, by_bits, at_zero, at_infinity, at_subnormal, at_normal, no_nan_pattern}
use Rattle.float.proofs.root.root.Goals as goal

pub returns-then-x : goal.returns-then-x
returns-then-x c =
    let held : T (fits binary32 c.args.x) = subst T (sym c.well_formed.0.1) tt in
    let both : (a : Option Float) → RootOf c.args.x a → (a ≡ root_of c.args.x) × RootOf c.args.x a = λ a h. (root_is c.args.x a (held) h, h) in both None (is_a_nan c.args.x c.if-x.true)

pub float_to_bits-b : goal.float_to_bits-b
float_to_bits-b c = is_no_nan c.args.x c.if-x.false

pub returns-then-b-eq0 : goal.returns-then-b-eq0
returns-then-b-eq0 c =
    let held : T (fits binary32 c.args.x) = subst T (sym c.well_formed.0.1) tt in
    let both : (a : Option Float) → RootOf c.args.x a → (a ≡ root_of c.args.x) × RootOf c.args.x a = λ a h. (root_is c.args.x a (held) h, h) in
    let x = c.args.x in
    both (Some x) (by_bits x (λ (z : Float). RootOf z (Some z)) (held) (at_zero (to_bits binary32 x) c.if-b-eq0.true))

pub returns-then-b-ge2139095040 : goal.returns-then-b-ge2139095040
returns-then-b-ge2139095040 c =
    let held : T (fits binary32 c.args.x) = subst T (sym c.well_formed.0.1) tt in
    let both : (a : Option Float) → RootOf c.args.x a → (a ≡ root_of c.args.x) × RootOf c.args.x a = λ a h. (root_is c.args.x a (held) h, h) in
    let x = c.args.x in
    both None (by_bits x (λ (z : Float). RootOf z None) (held) (at_infinity (to_bits binary32 x) (to_bits-lt binary32 x (held)) c.if-b-eq0.false c.if-b-ge2139095040.true))

pub float_from_bits-result : goal.float_from_bits-result
float_from_bits-result c = no_nan_pattern _ _ c.root_bits.ensures

pub returns-then-field-eq0 : goal.returns-then-field-eq0
returns-then-field-eq0 c =
    let held : T (fits binary32 c.args.x) = subst T (sym c.well_formed.0.1) tt in
    let both : (a : Option Float) → RootOf c.args.x a → (a ≡ root_of c.args.x) × RootOf c.args.x a = λ a h. (root_is c.args.x a (held) h, h) in
    let x = c.args.x in
    let r = c.root_bits.result in
    both (Some (of_bits binary32 r))
    (by_bits x (λ (z : Float). RootOf z (Some (of_bits binary32 r))) (held)
    (at_subnormal (to_bits binary32 x) r c.if-b-eq0.false c.if-b-ge2139095040.false c.if-field-eq0.true c.root_bits.ensures))

pub float_from_bits-result-2 : goal.float_from_bits-result-2
float_from_bits-result-2 c = no_nan_pattern _ _ c.root_bits-2.ensures

pub returns : goal.returns
returns c =
    let held : T (fits binary32 c.args.x) = subst T (sym c.well_formed.0.1) tt in
    let both : (a : Option Float) → RootOf c.args.x a → (a ≡ root_of c.args.x) × RootOf c.args.x a = λ a h. (root_is c.args.x a (held) h, h) in
    let x = c.args.x in
    let r = c.root_bits-2.result in
    both (Some (of_bits binary32 r))
    (by_bits x (λ (z : Float). RootOf z (Some (of_bits binary32 r))) (held)
    (at_normal (to_bits binary32 x) r c.if-b-ge2139095040.false c.if-field-eq0.false c.root_bits-2.ensures))
