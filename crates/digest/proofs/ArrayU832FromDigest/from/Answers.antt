-- Eight bytes of each word, one after the other. Assumes nothing.
use Rattle.digest.specs.Digest.{bytes_of}
use Rattle.digest.proofs.ArrayU832FromDigest.from.Goals as goal

pub returns : goal.returns
unfolding bytes_of
returns c =
    rw (
      c.copy_from_slice.ensures.after,
      c.copy_from_slice-2.ensures.after,
      c.copy_from_slice-3.ensures.after,
      c.copy_from_slice-4.ensures.after,
      c.to_be_bytes.ensures,
      c.to_be_bytes-2.ensures,
      c.to_be_bytes-3.ensures,
      c.to_be_bytes-4.ensures,
    )
