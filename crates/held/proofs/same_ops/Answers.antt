-- `held::same_ops` meets its contract: as many operations, and each is the one at its place. Assumes nothing.
use mathlib.Core.Path.{sym, ap, ◌∙◌}
use mathlib.Core.List.{map}
use Prim.Native.Nat.{ℕ, suc}
use native.Mathlib.Omega.{arith}
use Rattle.std.specs.List.{range_with_len}
use Rattle.std.proofs.Common.{refl, rules, tests}
use Rattle.std.proofs.lemmas.Iterator.{YieldsList-from_range}
use Rattle.std.proofs.lemmas.Iterator.Search.{all_from_yields_List}
use Rattle.held.specs.Held.{recorded_in, same, same_op}
use Rattle.held.proofs.Alike.{same-lengths, all-same, row_of, through-length, ops-given}
use Rattle.held.proofs.same_ops.Goals as goal

pub returns-then-end_of-end : goal.returns-then-end_of-end
returns-then-end_of-end c =
    let f = c.args.free.now in
    let r = c.args.run.now in
    let a = through-length (suc c.args.op) (recorded_in f.recorded) f.fits ∙ sym c.end_of-end.ensures in
    let b = through-length (suc c.args.op) (recorded_in r.recorded) r.fits ∙ sym c.end_of.ensures in
    same-lengths same_op _ _ (λ q. c.if-end_of-end.true (sym b ∙ sym q ∙ a))

pub returns : goal.returns
returns c =
    let f = recorded_in c.args.free.now.recorded in
    let r = recorded_in c.args.run.now.recorded in
    let n = c.end_of-end.result in
    all_from_yields_List (λ i. same_op (row_of f i) (row_of r i)) _ _ c.all.result c.all.ensures.ran (YieldsList-from_range 0 n n refl (omega arith)) (λ i d q k. search (rules, tests))
    ∙ all-same same_op (row_of f) (row_of r) (range_with_len 0 n)
    ∙ (λ i. same same_op ((ap (λ (k : ℕ). map (row_of f) (range_with_len 0 k)) c.end_of-end.ensures ∙ ops-given (suc c.args.op) f c.args.free.now.fits) i)
    ((ap (λ (k : ℕ). map (row_of r) (range_with_len 0 k)) (sym c.if-end_of-end.false ∙ c.end_of.ensures) ∙ ops-given (suc c.args.op) r c.args.run.now.fits) i))
