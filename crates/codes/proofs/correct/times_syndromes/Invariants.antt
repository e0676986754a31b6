use Rattle.basics.specs.Lists.{Updated}
use Rattle.algebra.specs.Coefficients.{product_entry}
use Rattle.codes.proofs.correct.times_syndromes.Given as goal

abbrev pub invariant-loop-m : goal.invariant-loop-m
invariant-loop-m g l = Updated l.m (product_entry (g.R.Ring.ops l.ring) l.c l.syndromes) l.initial.coefficient-items l.coefficient-items
