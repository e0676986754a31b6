use Rattle.std.proofs.Common.{ap, ◌∙◌, arith}
use Rattle.algebra.specs.Rows.{rising}
use Rattle.plans.proofs.Marking.{put_in, place_fresh, rising_inserted}
use Rattle.plans.proofs.plan.Plan.insert.Goals as goal

pub invariant_of-self : goal.invariant_of-self
invariant_of-self c =
    let s = c.args.self.now in let n = s.numbers.columns in
    record {
      room = omega arith;
      fits = omega arith;
      rises = ap (rising 0 n) (put_in s.marked _ s.count c.args.place c.args.column n (omega arith) c.copy_within.ensures.after s.rises c.requires.place)
          ∙ rising_inserted c.args.column 0 n _ (omega arith) c.requires.inside (place_fresh c.args.column c.args.place _ c.requires.place) s.rises;
    }

pub returns-clause-marking : goal.returns-clause-marking
returns-clause-marking c =
    let s = c.args.self.now in
    put_in s.marked _ s.count c.args.place c.args.column s.numbers.columns (omega arith) c.copy_within.ensures.after s.rises c.requires.place
