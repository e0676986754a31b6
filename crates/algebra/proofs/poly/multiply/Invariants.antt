use Rattle.basics.specs.Lists.{Updated}
use Rattle.algebra.specs.Coefficients.{product_entry}
use Rattle.algebra.proofs.poly.multiply.Given as goal

abbrev pub invariant-loop-m : goal.invariant-loop-m
invariant-loop-m g l = Updated l.m (product_entry (g.R.Ring.ops l.ring) l.a l.b) l.initial.product l.product
