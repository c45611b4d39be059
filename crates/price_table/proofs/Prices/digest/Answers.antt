use Rattle.std.proofs.Common.{◌∙◌, ap, append_assoc}
use Rattle.sha2.specs.Sha256.{sha256}
use Rattle.price_table.proofs.Prices.digest.Goals as goal

pub returns : goal.returns
returns c =
    let h1 = c.update.ensures _ c.new-hasher.ensures in
    let h2 = c.update-2.ensures _ h1 in
    let h3 = c.update-3.ensures _ h2 in
    let h4 = c.update-4.ensures _ h3 in
    let h5 = c.update-5.ensures _ h4 in
    let h6 = c.update-6.ensures _ h5 in
    let h7 = c.update-7.ensures _ h6 in
    rw (← c.self.view_is) (c.finalize.ensures _ h7 ∙ ap sha256 (rw (c.eight_bytes.ensures, c.eight_bytes-2.ensures, c.eight_bytes-3.ensures, c.eight_bytes-4.ensures, c.eight_bytes-5.ensures, c.eight_bytes-6.ensures, c.eight_bytes-7.ensures) (simp append_assoc)))
