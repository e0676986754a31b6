use Rattle.std.proofs.Common.{◌+◌, ◌*◌, rules}
use Rattle.basics.proofs.Updating.{made_at}
use Rattle.images.specs.Opening.{bytes_at, word_at}
use Rattle.images.proofs.Opening.{tabled_take}
use Rattle.images.proofs.open.Raw.columns.Goals as goal

pub returns : goal.returns
returns c = λ count few.
    tabled_take count 256 _ _ few c.from_fn.ensures.items.long
    (made_at _ (λ i. word_at (bytes_at c.args.self.now.bytes) (16 + 2 * i)) (λ q i y l e. search rules) 0 c.from_fn.ensures.items)
