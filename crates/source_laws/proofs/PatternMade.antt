-- Each form of a pattern, and each form around patterns, whose constituents fit.
use Rattle.std.proofs.Common.{◌≡◌, ◌≤◌, [], ◌∷◌, ◌++◌, length, sym, ap, refl, ◌∙◌, subst, append-nil, arith}
use Rattle.std.specs.Prelude.{⊤, flat_map, false}
use Rattle.std.proofs.lemmas.Bool.{leb-false}
use Rattle.calculus.specs.Tree.{Label, int, str, uri, bytes, fresh, var, name_var, method, tuple, receive, new, match, case, bundle, pattern, rest, some_process, some_name, same, either, not_this, set_pattern, map_pattern, trees}
use Rattle.calculus.specs.Shape.{held, listed, at, many}
use Rattle.calculus.specs.Variables.{bound, bound_all}
use Rattle.calculus.specs.Written.{in_pattern, Written, form, Writtens, no_more, more}
use Rattle.calculus.specs.Bare.{Names, bare_each}
use Rattle.calculus.specs.Form.{Sort, a_rest, pat, pat_part, row_of, pair_of, all, these, IsPlain, IsNarrow}
use Rattle.calculus.proofs.Placing.{listed-trees}
use Rattle.scope.specs.Binding.{Scope, all_variables, own_variables}
use Rattle.scope.specs.Rules.{Reading, outside, after, past, under, where_so, pattern_wide, has_many_members, has_many_parts, all_parts_of, how_many, breaks, all_breaks}
use Rattle.source_laws.specs.WellFormed.{pattern_kids, members, IsOfSort, Are}
use Rattle.source_laws.proofs.Scopes.{names_of, senses, left-none}
use Rattle.source_laws.proofs.Widths.{how-many, all-widths, narrow, one-narrow}
use Rattle.source_laws.proofs.ClosedReading.{IsAfter, Negated, so-false}
use Rattle.source_laws.proofs.Negated.{all-none}
use Rattle.source_laws.proofs.Parts.{flat-pats, flat-bound}
use Rattle.source_laws.proofs.Made.{bare_of, bare_all, Comes, AllCome, count-trees, row-length}

under-negates : (r : Reading) → IsAfter r → Negated (under r)
under-negates outside h = h
under-negates (after seen b) h = tt

few-members : (t : Written) → has_many_members t ≡ false → members 0 (more t no_more) ≤ 8
few-members (form f us) h = omega (arith, leb-false 9 (how_many us) h)

-- a row of members, and a remainder
first-row : (s : Sort) (t : Written) (ts : Writtens) (x : Names) → Are (these (row_of s ∷ a_rest ∷ [])) (more t ts) → has_many_members t ≡ false → length (held (at 0 (listed (trees (bare_each (more t ts) x []))))) ≤ 8
first-row s t no_more x h b = absurd h.1
first-row s t (more u us) x h b = rw (row-length s t x h.0) (few-members t b)

-- what holds more than parts in parallel
abbrev NoPattern : Label → Type 0
NoPattern pattern = ⊥
NoPattern _ = ⊤

-- what must hold of a form of a pattern beside its constituents
pattern-plain : (l : Label) (ts : Writtens) (v : Scope) (w : Names) (r : Reading) → NoPattern l → IsAfter r → IsOfSort pat (form (in_pattern l) ts) → breaks (form (in_pattern l) ts) v r ≡ [] → AllCome (pattern_kids l) v w ts
    → IsPlain pat_part (senses v) l (trees (bare_all v w ts))
pattern-plain pattern ts v w r n a h b c = absurd n
pattern-plain (int z) ts v w r n a h b c = h.0.0
pattern-plain (str z) ts v w r n a h b c = h.0.0
pattern-plain (uri z) ts v w r n a h b c = h.0.0
pattern-plain (bytes z) ts v w r n a h b c = h.0.0
pattern-plain tuple ts v w r n a h b c = rw (count-trees (bare_all v w ts), how-many ts (names_of v ++ w) []) h.0.1
pattern-plain set_pattern no_more v w r n a h b c = absurd h.1
pattern-plain set_pattern (more t ts) v w r n a h b c =
    first-row pat t ts (names_of v ++ w) h.1 (so-false (has_many_members t) pattern_wide (left-none (where_so (has_many_members t) pattern_wide) (breaks t v r ++ all_breaks ts v (past t r)) b))
pattern-plain map_pattern no_more v w r n a h b c = absurd h.1
pattern-plain map_pattern (more t ts) v w r n a h b c =
    first-row (pair_of pat) t ts (names_of v ++ w) h.1 (so-false (has_many_members t) pattern_wide (left-none (where_so (has_many_members t) pattern_wide) (breaks t v r ++ all_breaks ts v (past t r)) b))
pattern-plain either ts v w r n a h b c = c.1 ∙ ap senses (all-none (these (pat ∷ pat ∷ [])) ts v (under r) (tt, (tt, tt)) h.1 (under-negates r a) b)
pattern-plain not_this ts v w r n a h b c = c.1 ∙ ap senses (all-none (these (pat ∷ [])) ts v (under r) (tt, tt) h.1 (under-negates r a) b)
pattern-plain (bundle q) ts v w r n a h b c = c.1 ∙ ap senses (all-none (these (pat ∷ [])) ts v (under r) (tt, tt) h.1 (under-negates r a) b)
pattern-plain (receive k) ts v w r n a h b c = absurd h.1
pattern-plain (new os) ts v w r n a h b c = absurd h.1
pattern-plain match ts v w r n a h b c = absurd h.1
pattern-plain (fresh x) ts v w r n a h b c = absurd h.1
pattern-plain (var i) ts v w r n a h b c = absurd h.1
pattern-plain (name_var i) ts v w r n a h b c = absurd h.1
pattern-plain (method m) ts v w r n a h b c = absurd h.1
pattern-plain _ ts v w r n a h b c = tt

-- what a form of a pattern binds
pattern-bound : (l : Label) (ts : Writtens) (v : Scope) (w : Names) → NoPattern l → IsOfSort pat (form (in_pattern l) ts) → AllCome (pattern_kids l) v w ts
    → bound (bare_of v w (form (in_pattern l) ts)) ≡ senses (own_variables (in_pattern l) (all_variables ts))
pattern-bound pattern ts v w n h c = absurd n
pattern-bound same ts v w n h c = refl
pattern-bound some_process ts v w n h c = absurd h.1
pattern-bound some_name ts v w n h c = absurd h.1
pattern-bound (rest x) ts v w n h c = absurd h.1
pattern-bound (receive k) ts v w n h c = absurd h.1
pattern-bound (new os) ts v w n h c = absurd h.1
pattern-bound match ts v w n h c = absurd h.1
pattern-bound _ ts v w n h c = append-nil (bound_all (trees (bare_all v w ts))) ∙ c.1

module _ (ts : Writtens) (v : Scope) (w : Names) (r : Reading) where
  -- patterns in parallel
  parallel-made : IsOfSort pat (form (in_pattern pattern) ts) → breaks (form (in_pattern pattern) ts) v r ≡ [] → AllCome (all pat) v w ts → Comes pat v w (form (in_pattern pattern) ts)
  parallel-made h b c =
      let us = flat_map held (bare_all v w ts) in
      let few = so-false (has_many_parts (all_parts_of ts)) pattern_wide (left-none (where_so (has_many_parts (all_parts_of ts)) pattern_wide) (all_breaks ts v r) b) in
      let n : IsNarrow us = narrow us (all_parts_of ts) (all-widths ts (names_of v ++ w) h.1) few in
      ((subst IsNarrow (sym (listed-trees us)) n, flat-pats (senses v) [] (bare_all v w ts) c.0), flat-bound (senses v) [] (bare_all v w ts) c.0 ∙ c.1)

  -- a form of a pattern
  pub pattern-made : (l : Label) → IsAfter r → IsOfSort pat (form (in_pattern l) ts) → breaks (form (in_pattern l) ts) v r ≡ [] → AllCome (pattern_kids l) v w ts → Comes pat v w (form (in_pattern l) ts)
  pattern-made pattern a h b c = parallel-made h b c
  pattern-made some_process a h b c = absurd h.1
  pattern-made (receive k) a h b c = absurd h.1
  pattern-made (new os) a h b c = absurd h.1
  pattern-made match a h b c = absurd h.1
  pattern-made case a h b c = absurd h.1
  pattern-made l a h b c =
      ((one-narrow (many l (bare_all v w ts)), ((pattern-plain l ts v w r tt a h b c, c.0), tt)), pattern-bound l ts v w tt h c)
