-- Bytes and what they open to.
use Rattle.std.specs.Prelude.{◌≡◌, List, ℕ, None}
use Rattle.images.specs.Opening.{bytes_at}
use Rattle.images.specs.Opened.{Shows}
use Rattle.images.specs.declared.open.Opened.{Opened}
use Rattle.answers.specs.Answers.{no_image}

-- the bytes xs are an image, and this is what they open to
pub record Opens (xs : List ℕ) (opened : Opened) : Type 0 where
  pub image : no_image xs ≡ None
  pub bytes : bytes_at opened.image.bytes ≡ bytes_at xs
  pub page : Shows (bytes_at xs) opened.page
