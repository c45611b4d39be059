-- What a log names prices by, and the greatest limit of a deploy under them.
use Rattle.std.specs.Prelude.{ℕ, ◌*◌, List, ◌++◌}
use Rattle.sha2.specs.Sha256.{sha256}
use Rattle.calculus.specs.Bytes.{be64}
use Rattle.calculus.specs.Outcome.{Prices}

-- the digest of prices: of the seven numbers in order, as eight bytes each
abbrev pub price_digest : Prices → List ℕ
price_digest p = sha256 (be64 p.comm ++ (be64 p.send ++ (be64 p.receive ++ (be64 p.name ++ (be64 p.case ++ (be64 p.op ++ be64 p.byte))))))

-- the greatest limit that prices allow
abbrev pub most_limit : Prices → ℕ
most_limit p = p.comm * 1048576
