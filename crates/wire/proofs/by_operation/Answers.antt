use mathlib.Core.Path.{refl}
use Prim.Native.Nat.{◌+◌}
use borrow.Author.Tests.{ne_eqb}
use Rattle.model.specs.Wire.{by_operation}
use Rattle.wire.specs.declared.Request.TheVariants.{Write, Mark, Revert, ReadAt, Reclaim}
use Rattle.wire.proofs.Requests.{sum_zero, sum_three, short_is, followed_is, give_is, withdraw_is}
use Rattle.wire.proofs.by_operation.Goals as goal

pub returns-in-1 : goal.returns-in-1
unfolding by_operation
returns-in-1 c = λ part l z.
    let x = c.args in
    rw (c.in-1.is, c.followed.ensures) (followed_is part (Write x.a) (x.m + x.spare) x.left 256 _ (sum_zero x.m x.spare) l)

pub returns-in-2 : goal.returns-in-2
unfolding by_operation
returns-in-2 c = λ part l z.
    let x = c.args in
    rw (c.in-2.is, c.short.ensures) (short_is part Mark (x.a + x.m + x.spare) _ (sum_three x.a x.m x.spare))

pub returns-in-3 : goal.returns-in-3
unfolding by_operation
returns-in-3 c = λ part l z.
    let x = c.args in
    rw (c.in-3.is, c.short-in-3.ensures) (short_is part (Revert x.m x.a) x.spare _ refl)

pub returns-in-4 : goal.returns-in-4
unfolding by_operation
returns-in-4 c = λ part l z.
    let x = c.args in
    rw (c.in-4.is, c.short-in-4.ensures) (short_is part (ReadAt x.a x.m) x.spare _ refl)

pub returns-in-5 : goal.returns-in-5
unfolding by_operation
returns-in-5 c = λ part l z.
    let x = c.args in
    rw (c.in-5.is, c.short-in-5.ensures) (short_is part (Reclaim x.m) (x.a + x.spare) _ (sum_zero x.a x.spare))

pub returns-in-6 : goal.returns-in-6
unfolding by_operation
returns-in-6 c = λ part l z.
    let x = c.args in
    rw (c.in-6.is, c.followed-in-6.ensures) (give_is part x.high x.low x.left (x.a + x.spare) _ (sum_zero x.a x.spare) l z x.m)

pub returns-in-7 : goal.returns-in-7
unfolding by_operation
returns-in-7 c = λ part l z.
    let x = c.args in
    rw (c.in-7.is, c.followed-in-7.ensures) (withdraw_is part x.high x.low x.left (x.a + x.m + x.spare) _ (sum_three x.a x.m x.spare) l z)

pub returns-in_default : goal.returns-in_default
unfolding by_operation
returns-in_default c = λ part l z.
    let r = c.in_default.in_default-own.rest in
    rw (
      ne_eqb _ _ r.0.0.0.0.0.0.1,
      ne_eqb _ _ r.0.0.0.0.0.1,
      ne_eqb _ _ r.0.0.0.0.1,
      ne_eqb _ _ r.0.0.0.1,
      ne_eqb _ _ r.0.0.1,
      ne_eqb _ _ r.0.1,
      ne_eqb _ _ r.1,
    )
