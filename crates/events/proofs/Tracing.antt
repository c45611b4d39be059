-- How traces are made: of nothing, of a row, of names, under a move, and one after another.
use Rattle.std.proofs.Common.{◌≡◌, ◌≢◌, ℕ, suc, ◌≤◌, ◌+◌, ◌^◌, List, [], ◌∷◌, ◌++◌, map as each, length, refl, sym, ap, ◌∙◌, arith}
use Rattle.std.specs.Prelude.{⊤}
use Rattle.std.proofs.lemmas.List.{map-append}
use Rattle.calculus.proofs.Members.{Every, every-append, every-up}
use Rattle.calculus.specs.declared.plain.Origin.{Origin}
use Rattle.calculus.specs.declared.plain.Origin.TheVariants as origins
use Rattle.calculus.specs.Rows.{Row}
use Rattle.calculus.specs.Seeds.{message, digest_of, Fresh}
use Rattle.calculus.specs.Unfolding.{Product, a_row, digest, fresh_names}
use Rattle.events.proofs.Keys.{Move, split, body, fresh, under, NumberFits}
use Rattle.events.proofs.Ways.{Along, Way, down, Traced, apart-append, after_move, Begins, after-ends, after-apart, after-all}
use Rattle.events.specs.HashedTexts.{name_texts}

-- any way
abbrev pub Any : Way → Type 0
Any w = ⊤

-- a name of number k or more
abbrev pub NameFrom : ℕ → Move → Type 0
NameFrom k (split i) = ⊥
NameFrom k body = ⊥
NameFrom k (fresh j) = k ≤ j

-- a way that begins with such a name
abbrev pub NamesFrom : ℕ → Way → Type 0
NamesFrom k w = Begins (NameFrom k) w

later-name : (k : ℕ) (w : Way) → NamesFrom (suc k) w → NamesFrom k w
later-name k [] h = h
later-name k (split i ∷ w) h = h
later-name k (body ∷ w) h = h
later-name k (fresh j ∷ w) h = omega arith

other-name : (k : ℕ) (w : Way) → NamesFrom (suc k) w → fresh k ∷ [] ≢ w
other-name k [] h = absurd h
other-name k (split i ∷ w) h = absurd h
other-name k (body ∷ w) h = absurd h
other-name k (fresh j ∷ w) h = λ e. let p : k ≡ j = cc in omega (arith, h, p)

-- texts of any kind
module _ (H : List ℕ → Type 0) where
  pub nothing-traced : (P : Way → Type 0) (s : List ℕ) → Traced H P s []
  nothing-traced P s = record { ways = []; digests = refl; apart = tt; rooms = tt; all = tt; texts = tt }

  pub row-traced : (s : List ℕ) (r : Row) → r.id ≡ s → Traced H Any s (a_row r ∷ [])
  row-traced s r e = record { ways = [] ∷ []; digests = ap (λ x. x ∷ []) e; apart = (tt, tt); rooms = (tt, tt); all = (tt, tt); texts = (tt, tt) }

  -- what is traced under a move
  pub move-traced : (P Q : Way → Type 0) (m : Move) (s : List ℕ) (ts : List Product) → NumberFits m → ((w : Way) → P w → Q (m ∷ w)) → H (message (under m s)) → Traced H P (digest_of (under m s)) ts → Traced H Q s ts
  move-traced P Q m s ts h f x r = record {
    ways = after_move m r.ways;
    digests = r.digests ∙ sym (after-ends s m r.ways);
    apart = after-apart m r.ways r.apart;
    rooms = after-all (Every NumberFits) (Every NumberFits) m (λ w k. (h, k)) r.ways r.rooms;
    all = after-all P Q m f r.ways r.all;
    texts = after-all (Along H (digest_of (under m s))) (Along H s) m (λ w k. (x, k)) r.ways r.texts;
  }

  -- one after another, where no way of the one kind is of the other
  pub append-traced : (P Q R : Way → Type 0) (s : List ℕ) (ts us : List Product) → ((v w : Way) → P v → Q w → v ≢ w) → ((w : Way) → P w → R w) → ((w : Way) → Q w → R w) → Traced H P s ts → Traced H Q s us → Traced H R s (ts ++ us)
  append-traced P Q R s ts us f g k a b = record {
    ways = a.ways ++ b.ways;
    digests = map-append digest ts us ∙ ap (λ l. l ++ each digest us) a.digests ∙ ap (λ l. each (down s) a.ways ++ l) b.digests ∙ sym (map-append (down s) a.ways b.ways);
    apart = apart-append P Q f a.ways b.ways a.all b.all a.apart b.apart;
    rooms = every-append (Every NumberFits) a.ways b.ways a.rooms b.rooms;
    all = every-append R a.ways b.ways (every-up P R g a.ways a.all) (every-up Q R k b.ways b.all);
    texts = every-append (Along H s) a.ways b.ways a.texts b.texts;
  }

  later-names : (s : List ℕ) (k : ℕ) (ts : List Product) → Traced H (NamesFrom (suc k)) s ts → Traced H (NamesFrom k) s ts
  later-names s k ts r = record { ways = r.ways; digests = r.digests; apart = r.apart; rooms = r.rooms; all = every-up (NamesFrom (suc k)) (NamesFrom k) (later-name k) r.ways r.all; texts = r.texts }

  pub names-traced : (s : List ℕ) (k : ℕ) (os : List Origin) → k + length os ≤ 2 ^ 32 → Every H (name_texts s k os) → Traced H (NamesFrom k) s (fresh_names s k os)
  names-traced s k [] h x = nothing-traced (NamesFrom k) s
  names-traced s k (origins.Plain ∷ os) h x =
      let r : Traced H (NamesFrom (suc k)) s (fresh_names s (suc k) os) = names-traced s (suc k) os (omega (arith, h)) x.1 in
      record {
        ways = (fresh k ∷ []) ∷ r.ways;
        digests = ap (λ l. digest_of (Fresh s k) ∷ l) r.digests;
        apart = (every-up (NamesFrom (suc k)) (λ w. fresh k ∷ [] ≢ w) (other-name k) r.ways r.all, r.apart);
        rooms = ((omega (arith, h), tt), r.rooms);
        all = (omega arith, every-up (NamesFrom (suc k)) (NamesFrom k) (later-name k) r.ways r.all);
        texts = ((x.0, tt), r.texts);
      }
  names-traced s k (origins.Stdout ∷ os) h x = later-names s k (fresh_names s (suc k) os) (names-traced s (suc k) os (omega (arith, h)) x)
  names-traced s k (origins.StdoutAck ∷ os) h x = later-names s k (fresh_names s (suc k) os) (names-traced s (suc k) os (omega (arith, h)) x)
