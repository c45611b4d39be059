-- Rows that are filed are found.
use Rattle.std.proofs.Common.{◌≡◌, ℕ, Bool, true, false, cond, ◌&&◌, ◌||◌, List, [], ◌∷◌, map as each, refl, sym, ◌∙◌, ap, subst, inl, inr, arith}
use Rattle.std.specs.Prelude.{Option, Some, None, is_some, option_map}
use Rattle.std.specs.List.{AllByRecursion}
use Rattle.std.specs.Map.{lookup}
use Rattle.std.specs.Str.{bytes_eq}
use Rattle.std.specs.declared.alloc.Global.{Global}
use Rattle.std.specs.declared.vec.Vec.{Vec}
use Rattle.std.proofs.lemmas.Map.Text.{is_eq-slice_cmp}
use Rattle.calculus.proofs.Members.{Every}
use Rattle.calculus.specs.Tree.{Tree, node, receive}
use Rattle.calculus.specs.Code.{code}
use Rattle.calculus.specs.Congruence.{congruent}
use Rattle.calculus.specs.Form.{term}
use Rattle.calculus.specs.Rows.{Row, channels}
use Rattle.calculus.specs.Steps.{as_datum, as_receiver, is_one_of}
use Rattle.calculus.specs.Storing.{IsStorable}
use Rattle.calculus.proofs.CodesAgree.{code_is_congruence}
use Rattle.events.specs.Found.{Among}
use Rattle.events.proofs.Counts.{bytes_same}
use Rattle.match_targets.specs.Targets.{Ready}
use Rattle.process_laws.proofs.Channels.{IsClosedShort, channels-closed, part-length}
use Rattle.row_search.specs.Rows.{is_one_channel, row_with, with_row, looked_up, HasSends, HasReceivers, IsIn}
use Rattle.shard_counts.specs.declared.keyed.ShardCounts.{ShardCounts}
use Rattle.row_table.specs.declared.table.Filed.{Filed}
use Rattle.row_table.specs.Groups.{is_send, is_key, Index, group, HasId}
use Rattle.row_table.specs.Tables.{IsFiled, IsTable, rows_in}

-- a row with one of these ids is looked up
pub looked-up-found : (rows : List Row) (r : Row) (xs : List (List ℕ)) → row_with r.id rows ≡ Some r → is_one_of r.id xs ≡ true → Among r (looked_up rows xs)
looked-up-found rows r [] e h = cc h
looked-up-found rows r (x ∷ xs) e h = go (looked-up-found rows r xs e) (bytes_eq r.id x) refl h
  where
    later : (o : Option Row) → Among r (looked_up rows xs) → Among r (with_row o (looked_up rows xs))
    later None a = a
    later (Some q) a = inr a

    go : (is_one_of r.id xs ≡ true → Among r (looked_up rows xs)) → (b : Bool) → bytes_eq r.id x ≡ b → b || is_one_of r.id xs ≡ true → Among r (with_row (row_with x rows) (looked_up rows xs))
    go next true i g = subst (λ o. Among r (with_row o (looked_up rows xs))) (sym (subst (λ y. row_with y rows ≡ Some r) (bytes_same r.id x i) e)) (inl refl)
    go next false i g = later (row_with x rows) (next g)

-- each entry stands under its row's id
abbrev pub AreUnderIds : List (List ℕ × Filed) → Type 0
AreUnderIds es = AllByRecursion (λ e. e.0 ≡ e.1.row.id) es

pub under-ids : (sends receivers : Index) (es : List (List ℕ × Filed)) → AllByRecursion (IsFiled sends receivers) es → AreUnderIds es
under-ids sends receivers [] h = tt
under-ids sends receivers (e ∷ es) h = (h.0.id, under-ids sends receivers es h.1)

-- a row of an entry, where there is one
abbrev pub row_of : Option Filed → Option Row
row_of o = option_map (λ f. f.row) o

-- the row with an id is that of its entry
pub row-at : (es : List (List ℕ × Filed)) → AreUnderIds es → (x : List ℕ) → row_of (lookup (is_key x) es) ≡ row_with x (rows_in es)
row-at [] h x = refl
row-at (e ∷ es) h x = go (is_key x e.0) (bytes_eq x e.1.row.id) (is_eq-slice_cmp x e.0 ∙ ap (bytes_eq x) h.0) (row-at es h.1 x)
  where
    go : (b c : Bool) → b ≡ c → row_of (lookup (is_key x) es) ≡ row_with x (rows_in es) → row_of (cond b (Some e.1) (lookup (is_key x) es)) ≡ cond c (Some e.1.row) (row_with x (rows_in es))
    go true true i n = refl
    go false false i n = n
    go true false i n = cc i
    go false true i n = cc i

-- a storable row's channels are closed and short
pub row-channels : (r : Row) → IsStorable r → Every IsClosedShort (channels r.part)
row-channels r s = channels-closed r.part s.closed.1.0 (omega (arith, s.short, part-length r s.active s.closed.1.0))

-- a channel that is congruent to one of these has its code
congruent-code : (c : Tree) (ds : List Tree) → Ready term c → Every IsClosedShort ds → is_one_channel c ds ≡ true → (d : Tree) × IsIn d ds × (code c ≡ code d)
congruent-code c [] r h e = cc e
congruent-code c (d ∷ ds) r h e = go (congruent c d) refl e (congruent-code c ds r h.1)
  where
    go : (b : Bool) → congruent c d ≡ b → b || is_one_channel c ds ≡ true → (is_one_channel c ds ≡ true → (u : Tree) × IsIn u ds × (code c ≡ code u)) → (u : Tree) × IsIn u (d ∷ ds) × (code c ≡ code u)
    go true i g next = (d, inl refl, (code_is_congruence c d r.closed h.0.0 r.short h.0.1).1 i)
    go false i g next = let n = next g in (n.0, inr n.1, n.2)

-- among the codes of these channels is that of one of them
in-keys : (ks : List (Vec ℕ Global)) (cs : List Tree) → each (λ k. k.items) ks ≡ each code cs → (u : Tree) → IsIn u cs → (k : Vec ℕ Global) × IsIn k ks × (k.items ≡ code u)
in-keys ks [] e u i = absurd i
in-keys [] (c ∷ cs) e u i = cc e
in-keys (k ∷ ks) (c ∷ cs) e u (inl i) = let same : k.items ≡ code c = cc e in (k, inl refl, same ∙ ap code (sym i))
in-keys (k ∷ ks) (c ∷ cs) e u (inr i) = let n = in-keys ks cs (cc e) u i in (n.0, inr n.1, n.2)

and-both : (a b : Bool) → a && b ≡ true → (a ≡ true) × (b ≡ true)
and-both true b e = (refl, e)
and-both false b e = cc e

module _ (rows : List (List ℕ × Filed)) (sends receivers : Index) (shards : ShardCounts) (t : IsTable rows sends receivers shards) (tells : (r : Row) → Among r (rows_in rows) → row_with r.id (rows_in rows) ≡ Some r) where
  -- the entry of a row
  entry-of : (es : List (List ℕ × Filed)) → AllByRecursion (IsFiled sends receivers) es → (r : Row) → Among r (rows_in es) → (e : List ℕ × Filed) × IsFiled sends receivers e × (e.1.row ≡ r)
  entry-of [] h r a = absurd a
  entry-of (e ∷ es) h r (inl i) = (e, h.0, sym i)
  entry-of (e ∷ es) h r (inr a) = entry-of es h.1 r a

  -- the id of a row with a channel is in the channel's group
  in-group : (c : Tree) → Ready term c → (r : Row) → Among r (rows_in rows) → is_one_channel c (channels r.part) ≡ true → HasId (cond (is_send r) sends receivers) (code c) r.id
  in-group c k r a h =
      let e = entry-of rows t.filed r a in
      let P : Row → Type 0 = λ q. is_one_channel c (channels q.part) ≡ true → HasId (cond (is_send q) sends receivers) (code c) q.id in
      subst P e.2
      (λ g. let d = congruent-code c (channels e.0.1.row.part) k (row-channels e.0.1.row e.1.storable) g in
      let q = in-keys e.0.1.keys.items (channels e.0.1.row.part) e.1.keys d.0 d.1 in
      subst (λ z. HasId (cond (is_send e.0.1.row) sends receivers) z e.0.1.row.id) (q.2 ∙ sym d.2) (e.1.found q.0 q.1))
      h

  pub sends-found : (c : Tree) → Ready term c → HasSends (rows_in rows) c (group sends (code c))
  sends-found c k r a h =
      let s = and-both (is_some (as_datum r.part)) (is_one_channel c (channels r.part)) h in
      looked-up-found (rows_in rows) r (group sends (code c)) (tells r a) (subst (λ b. HasId (cond b sends receivers) (code c) r.id) s.0 (in-group c k r a s.1))

  pub receivers-found : (c : Tree) → Ready term c → HasReceivers (rows_in rows) c (group receivers (code c))
  receivers-found c k r a h =
      let s = and-both (is_some (as_receiver r.part)) (is_one_channel c (channels r.part)) h in
      looked-up-found (rows_in rows) r (group receivers (code c)) (tells r a)
      (subst (λ b. HasId (cond b sends receivers) (code c) r.id) (no-datum r.part s.0) (in-group c k r a s.1))
    where
      no-datum : (u : Tree) → is_some (as_receiver u) ≡ true → is_some (as_datum u) ≡ false
      no-datum (node (receive p) ts) e = refl
      no-datum (node _ ts) e = cc
