-- Where a form of a pattern, a case or a bind is refused, the place that is blamed: at each of its fields.
use Rattle.std.proofs.Common.{◌≡◌, ℕ, ◌+◌, List, [], ◌∷◌, ◌++◌, refl, ap, sym, ◌∙◌, subst, arith, reverse, append-nil, append_assoc}
use Rattle.std.specs.Prelude.{Bool, true, false}
use Rattle.calculus.specs.Tree.{par, bind, case, rest, Tree, node, Trees, none, also}
use Rattle.calculus.specs.Kinds.{rights_number, rest_number}
use Rattle.calculus.specs.declared.plain.TermRest.{TermRest}
use Rattle.calculus.specs.Shape.{leaf}
use Rattle.calculus.specs.Code.{byte_of, code}
use Rattle.calculus.specs.Form.{Sort, term, a_bind, a_case, a_rest, pat, name_pat, pat_part, row_of, pair_of, Scope}
use Rattle.calculus.specs.Variables.{Sense, bound, bound_all}
use Rattle.calculus.proofs.Splitting.{kids-short}
use Rattle.code_faults.specs.declared.fault.ReadFault.{ReadFault}
use Rattle.code_faults.specs.Reading.{Reads}
use Rattle.code_faults.specs.Refusing.{IsRight, HasRoom}
use Rattle.code_faults.specs.Places.{another, field, inner, items, Stop}
use Rattle.code_faults.specs.Blaming.{Blames, BlamesIn, Wrong, InTree, InRow, InByte, InRest}
use Rattle.code_faults.proofs.Kids.{no_false, two, three, held-few}
use Rattle.code_faults.proofs.Forms.{no_variables}
use Rattle.code_faults.proofs.PatRefusals.{rest-of}
use Rattle.code_faults.proofs.Exits.{byte-le, rights-le}
use Rattle.code_faults.proofs.CaseRefusals.{same-scope, bound-room}
use Rattle.code_faults.proofs.Blaming.{first-blamed, byte-passed, read-passed, inside, inner-blamed, reread, behind, level}
use Rattle.code_faults.proofs.BlamedRows.{inner-row}
use Rattle.code_faults.proofs.BlamedForms.{under}
use Rattle.code_faults.proofs.BlamedExits.{behind-room, two-parts}
use Rattle.code_faults.proofs.BlamedPatterns.{list_pattern-at, tuple_pattern-at, set_pattern-at, map_pattern-at, send_pattern-at, bundle_pattern-at, same-at, both-at, either-at, not_this-at}

-- a remainder behind a row
rest-passed : {stop : Stop} {room : ℕ} {before : List ℕ} {b : Bool} {s : Sort} {v w : Scope} {high more : ℕ} {u : Tree} {bs next : List ℕ} (r : Tree) (q : TermRest) → Reads s w more u bs next → HasRoom v (code u ++ before) → IsRight b s v high r
    → Blames stop room before (field (rest_number q ∷ []) ∷ []) → Blames stop room (code u ++ before) (inner another [] r ∷ inner another [] (leaf (rest q)) ∷ [])
rest-passed r q c l g h = read-passed [] r _ c l g (λ z. inside (leaf (rest q)) [] (level (leaf (rest q)) refl h))

module _ {b : Bool} {v : Scope} {room : ℕ} {e : ReadFault} {bs : List ℕ} where
  pub list-members_wrong : Wrong (InRow b pat v room 0 0xFFFFFFFF) e bs → Wrong (InTree b pat_part v (room + 1)) e (0x20 ∷ bs)
  list-members_wrong h = under (InRow b pat v room 0 0xFFFFFFFF) 0x20 [] refl refl refl (λ stop before j. list_pattern-at (λ high r q l g f. inner-row r _ j l g (omega arith) (held-few r g))) h

  pub tuple_pattern_wrong : Wrong (InRow b pat v room 1 0xFFFFFFFF) e bs → Wrong (InTree b pat_part v (room + 1)) e (0x21 ∷ bs)
  tuple_pattern_wrong h = under (InRow b pat v room 1 0xFFFFFFFF) 0x21 [] refl refl refl (λ stop before j. tuple_pattern-at j) h

  pub set-members_wrong : Wrong (InRow b pat v room 0 8) e bs → Wrong (InTree b pat_part v (room + 1)) e (0x22 ∷ bs)
  set-members_wrong h = under (InRow b pat v room 0 8) 0x22 [] refl refl refl (λ stop before j. set_pattern-at (λ high r q l g m f. inner-row r _ j l g (omega arith) m)) h

  pub map-pairs_wrong : Wrong (InRow b (pair_of pat) v room 0 8) e bs → Wrong (InTree b pat_part v (room + 1)) e (0x23 ∷ bs)
  map-pairs_wrong h = under (InRow b (pair_of pat) v room 0 8) 0x23 [] refl refl refl (λ stop before j. map_pattern-at (λ high r q l g m f. inner-row r _ j l g (omega arith) m)) h

  pub pat_send-channel_wrong : {n : ℕ} {next : List ℕ} → bs ≡ n ∷ next → Wrong (InTree b name_pat v room) e next → Wrong (InTree b pat_part v (room + 1)) e (0x30 ∷ bs)
  pat_send-channel_wrong {n = n} is h = under (InTree b name_pat v room) 0x30 (n ∷ []) refl refl is
      (λ stop before j. send_pattern-at (λ high q a r l g k. byte-passed _ _ (λ z. inner-blamed a _ j (behind-room (n ∷ []) l) g))) h

  pub pat_send-args_wrong : {low : ℕ} {n : ℕ} {next last : List ℕ} {u : Tree} → bs ≡ n ∷ next → Reads name_pat v low u next last → Wrong (InRow b pat v room 0 0xFFFFFFFF) e last → Wrong (InTree b pat_part v (room + 1)) e (0x30 ∷ bs)
  pat_send-args_wrong {n = n} {u = u} is c h = under (InRow b pat v room 0 0xFFFFFFFF) 0x30 (n ∷ code u) refl refl (two-parts is c)
      (λ stop before j. send_pattern-at (λ high q a r l g k.
      let m = behind-room (n ∷ []) l in
      byte-passed _ _ (λ z. read-passed [] a _ c m g (λ y. inner-row r [] j (behind-room (code u) m) k (omega arith) (held-few r k))))) h

  pub pat_bundle-body_wrong : {n : ℕ} {next : List ℕ} → bs ≡ n ∷ next → Wrong (InTree false pat v room) e next → Wrong (InTree b pat_part v (room + 1)) e (0x34 ∷ bs)
  pat_bundle-body_wrong {n = n} is h = under (InTree false pat v room) 0x34 (n ∷ []) refl refl is
      (λ stop before j. bundle_pattern-at (λ high r a l g. byte-passed _ _ (λ z. inner-blamed a [] j (behind-room (n ∷ []) l) g))) h

  pub same-body_wrong : Wrong (InTree true term v room) e bs → Wrong (InTree b pat_part v (room + 1)) e (0x53 ∷ bs)
  same-body_wrong h = under (InTree true term v room) 0x53 [] refl refl refl (λ stop before j. same-at (λ high a l g. inner-blamed a [] j l g)) h

  pub both-left_wrong : Wrong (InTree b pat v room) e bs → Wrong (InTree b pat_part v (room + 1)) e (0x54 ∷ bs)
  both-left_wrong h = under (InTree b pat v room) 0x54 [] refl refl refl (λ stop before j. both-at (λ high a c l g k. inner-blamed a _ j l g)) h

  pub both-right_wrong : {low : ℕ} {u : Tree} {next : List ℕ} → Reads pat v low u bs next → Wrong (InTree b pat v room) e next → Wrong (InTree b pat_part v (room + 1)) e (0x54 ∷ bs)
  both-right_wrong {u = u} r h = under (InTree b pat v room) 0x54 (code u) refl refl r.is (λ stop before j. both-at (λ high a c l g k. read-passed [] a _ r l g (λ z. inner-blamed c [] j (behind-room (code u) l) k))) h

  pub either-left_wrong : Wrong (InTree false pat v room) e bs → Wrong (InTree b pat_part v (room + 1)) e (0x55 ∷ bs)
  either-left_wrong h = under (InTree false pat v room) 0x55 [] refl refl refl (λ stop before j. either-at (λ high a c l g k. inner-blamed a _ j l g)) h

  pub either-right_wrong : {low : ℕ} {u : Tree} {next : List ℕ} → Reads pat v low u bs next → Wrong (InTree false pat v room) e next → Wrong (InTree b pat_part v (room + 1)) e (0x55 ∷ bs)
  either-right_wrong {u = u} r h = under (InTree false pat v room) 0x55 (code u) refl refl r.is (λ stop before j. either-at (λ high a c l g k. read-passed [] a _ r l g (λ z. inner-blamed c [] j (behind-room (code u) l) k))) h

  pub not-body_wrong : Wrong (InTree false pat v room) e bs → Wrong (InTree b pat_part v (room + 1)) e (0x56 ∷ bs)
  not-body_wrong h = under (InTree false pat v room) 0x56 [] refl refl refl (λ stop before j. not_this-at (λ high a l g. inner-blamed a [] j l g)) h

module _ {b : Bool} {v : Scope} (room : ℕ) {e : ReadFault} {bs : List ℕ} where
  pub list-rest_wrong : {low : ℕ} {u : Tree} {next : List ℕ} → Reads (row_of pat) v low u bs next → Wrong (InRest b) e next → Wrong (InTree b pat_part v (room + 1)) e (0x20 ∷ bs)
  list-rest_wrong {u = u} c h = under (InRest b) 0x20 (code u) refl refl c.is (λ stop before j. list_pattern-at (λ high r q l g f. rest-passed r q c l g (j.no _ q f))) h

  pub set-rest_wrong : {low : ℕ} {u : Tree} {next : List ℕ} → Reads (row_of pat) v low u bs next → Wrong (InRest b) e next → Wrong (InTree b pat_part v (room + 1)) e (0x22 ∷ bs)
  set-rest_wrong {u = u} c h = under (InRest b) 0x22 (code u) refl refl c.is (λ stop before j. set_pattern-at (λ high r q l g m f. rest-passed r q c l g (j.no _ q f))) h

  pub map-rest_wrong : {low : ℕ} {u : Tree} {next : List ℕ} → Reads (row_of (pair_of pat)) v low u bs next → Wrong (InRest b) e next → Wrong (InTree b pat_part v (room + 1)) e (0x23 ∷ bs)
  map-rest_wrong {u = u} c h = under (InRest b) 0x23 (code u) refl refl c.is (λ stop before j. map_pattern-at (λ high r q l g m f. rest-passed r q c l g (j.no _ q f))) h

  pub pat_send-flag_wrong : Wrong (InByte 1) e bs → Wrong (InTree b pat_part v (room + 1)) e (0x30 ∷ bs)
  pat_send-flag_wrong h = under (InByte 1) 0x30 [] refl refl refl (λ stop before j. send_pattern-at (λ high q a r l g k. first-blamed (field (byte_of q ∷ []) ∷ []) (inner another [] a ∷ inner another [] r ∷ []) (j _ (byte_of q) (byte-le q)))) h

  pub pat_bundle-rights_wrong : Wrong (InByte 3) e bs → Wrong (InTree b pat_part v (room + 1)) e (0x34 ∷ bs)
  pat_bundle-rights_wrong h = under (InByte 3) 0x34 [] refl refl refl (λ stop before j. bundle_pattern-at (λ high r a l g. first-blamed (field (rights_number r ∷ []) ∷ []) (inner another [] a ∷ []) (j _ (rights_number r) (rights-le r)))) h

module _ {v : Scope} {room : ℕ} {stop : Stop} {before : List ℕ} where
  case-at : ((high : ℕ) (t body : Tree) → HasRoom v before → IsRight true pat v high t → IsRight true term (reverse (bound t) ++ v) high body → Blames stop room before (inner another [] t ∷ inner another [] body ∷ [])) → InTree true a_case v room stop before
  case-at f = record { no = go }
    where
      go : HasRoom v before → (high : ℕ) → (t : Tree) → IsRight true a_case v high t → BlamesIn stop room before t
      go l high (node case ts) g =
          let p = two true pat term v (reverse (bound_all ts)) high ts g.fits.1 (omega (arith, g.low)) (kids-short case ts g.short) (λ q. absurd (no_false q)) in
          let n : bound_all ts ≡ bound p.first = ap bound_all p.is ∙ ap (λ (vs : List Sense). bound p.first ++ (vs ++ [])) (no_variables (reverse (bound_all ts) ++ v) p.second p.other.fits) ∙ append-nil (bound p.first) in
          let body : IsRight true term (reverse (bound p.first) ++ v) high p.second = subst (λ (vs : List Sense). IsRight true term (reverse vs ++ v) high p.second) n p.other in
          level (node case ts) refl (subst (λ (us : Trees). Blames stop room before (items (node case us))) (sym p.is) (f high p.first p.second l p.one body))
      go l high (node par ts) g = absurd g.fits.1
      go l high (node _ ts) g = absurd g.fits.1

  bind-at : ((high : ℕ) (c r : Tree) (q : TermRest) → HasRoom v before → IsRight true term v high c → IsRight true (row_of name_pat) v high r → Blames stop room before (inner another [] c ∷ inner another [] r ∷ inner another [] (leaf (rest q)) ∷ [])) → InTree true a_bind v room stop before
  bind-at f = record { no = go }
    where
      go : HasRoom v before → (high : ℕ) → (t : Tree) → IsRight true a_bind v high t → BlamesIn stop room before t
      go l high (node bind ts) g =
          let p = three term (row_of name_pat) a_rest v high ts g.fits.1 (omega (arith, g.low)) (kids-short bind ts g.short) in
          let x = rest-of p.third p.last in
          let is : ts ≡ also p.first (also p.second (also (leaf (rest x.kind)) none)) = p.is ∙ ap (λ (u : Tree). also p.first (also p.second (also u none))) x.is in
          level (node bind ts) refl (subst (λ (us : Trees). Blames stop room before (items (node bind us))) (sym is) (f high p.first p.second x.kind l p.one p.other))
      go l high (node par ts) g = absurd g.fits.1
      go l high (node _ ts) g = absurd g.fits.1

module _ {v : Scope} {room : ℕ} {e : ReadFault} {bs : List ℕ} where
  pub case-pattern_wrong : Wrong (InTree true pat v room) e bs → Wrong (InTree true a_case v room) e bs
  case-pattern_wrong h = behind (InTree true pat v room) (InTree true a_case v room) e [] refl (λ stop before j. case-at (λ high t body l g k. inner-blamed t _ j l g)) h

  pub case-body_wrong : {low : ℕ} {w : Scope} {u : Tree} {next : List ℕ} → Reads pat v low u bs next → w ≡ reverse (bound u) ++ v → Wrong (InTree true term w room) e next → Wrong (InTree true a_case v room) e bs
  case-body_wrong {w = w} {u = u} c p h = behind (InTree true term w room) (InTree true a_case v room) e (code u) c.is (λ stop before j. case-at (λ high t body l g k.
      let c2 = reread before c in
      read-passed [] t _ c l g (λ y.
      let o = same-scope t c2 l g y p in
      inner-blamed body [] (subst (λ (x : Scope). InTree true term x room stop before) o j) (subst (λ (x : Scope). HasRoom x before) o (bound-room c2 l p)) k))) h

  pub bind-channel_wrong : Wrong (InTree true term v room) e bs → Wrong (InTree true a_bind v room) e bs
  bind-channel_wrong h = behind (InTree true term v room) (InTree true a_bind v room) e [] refl (λ stop before j. bind-at (λ high c r q l g k. inner-blamed c _ j l g)) h

  pub bind-patterns_wrong : {low : ℕ} {u : Tree} {next : List ℕ} → Reads term v low u bs next → Wrong (InRow true name_pat v room 0 0xFFFFFFFF) e next → Wrong (InTree true a_bind v room) e bs
  bind-patterns_wrong {u = u} a h = behind (InRow true name_pat v room 0 0xFFFFFFFF) (InTree true a_bind v room) e (code u) a.is
      (λ stop before j. bind-at (λ high c r q l g k. read-passed [] c _ a l g (λ y. inner-row r _ j (behind-room (code u) l) k (omega arith) (held-few r k)))) h

  pub bind-rest_wrong : {low : ℕ} {u t : Tree} {next last : List ℕ} → Reads term v low u bs next → Reads (row_of name_pat) v low t next last → Wrong (InRest true) e last → Wrong (InTree true a_bind v room) e bs
  bind-rest_wrong {u = u} {t = t} {last = last} a d h = behind (InRest true) (InTree true a_bind v room) e (code u ++ code t) (a.is ∙ ap (λ (z : List ℕ). code u ++ z) d.is ∙ sym (append_assoc (code u) (code t) last))
      (λ stop before j. bind-at (λ high c r q l g k.
      let b = append_assoc (code u) (code t) before in
      let m : HasRoom v (code u ++ (code t ++ before)) = subst (λ (z : List ℕ). HasRoom v z) b l in
      subst (λ (z : List ℕ). Blames stop room z (inner another [] c ∷ inner another [] r ∷ inner another [] (leaf (rest q)) ∷ [])) (sym b)
      (read-passed [] c _ a m g (λ y. rest-passed r q d (behind-room (code u) m) k (j.no _ q (λ f. absurd (no_false f))))))) h
