-- What is left of the production of a part where a step of the parser ends.
use Rattle.std.specs.Prelude.{ℕ, ◌<◌, ◌≤◌, ⊤, Bool, true, false, List, [], Option, Some, None, cond, max}
use Rattle.calculus.specs.Meaning.{name_pat_written, name_written}
use Rattle.calculus.specs.declared.plain.Rights.{Rights}
use Rattle.calculus.specs.declared.process.Name.{Name}
use Rattle.calculus.specs.declared.process.NamePat.{NamePat}
use Rattle.form_steps.specs.declared.step.FormKey.{FormKey}
use Rattle.form_steps.specs.declared.step.FormKey.TheVariants as keys
use Rattle.form_steps.specs.declared.step.PartStep.{PartStep}
use Rattle.form_steps.specs.declared.step.PartStep.TheVariants as parts
use Rattle.form_steps.specs.declared.step.TermStep.{TermStep}
use Rattle.form_steps.specs.declared.step.TermStep.TheVariants as terms
use Rattle.calculus.specs.Written.{Written}
use Rattle.form_steps.specs.declared.step.Sending.{Sending}
use Rattle.grammar.specs.declared.mark.Mark.{Mark}
use Rattle.grammar.specs.declared.mark.Mark.TheVariants as marks
use Rattle.grammar.specs.Choice.{sees_any_send, sees_bundle, sees_send}
use Rattle.grammar.specs.Productions.{Prod}
use Rattle.grammar.specs.Rules.{Sort, Rule, round, at, done, sign, under, last}
use Rattle.grammar.specs.Terminals.{Terminal, sees}
use Rattle.grammar.specs.Values.{Side, Spelt, bundle_of, closed_of, contract_of, opened, patterns, processes, quote_of, quoted_of, send_of, spelt}

-- the sort of a keyed form
abbrev pub form_sort : FormKey → Sort
form_sort keys.New = Sort.New
form_sort keys.If = Sort.If
form_sort keys.Contract = Sort.Contract
form_sort keys.For = Sort.For
form_sort keys.Match = Sort.Match

-- the key of a form
abbrev pub key_mark : FormKey → Mark
key_mark keys.New = marks.New
key_mark keys.If = marks.If
key_mark keys.Contract = marks.Contract
key_mark keys.For = marks.For
key_mark keys.Match = marks.Match

-- whether a parenthesis follows the key
abbrev pub has_parenthesis : FormKey → Bool
has_parenthesis keys.If = true
has_parenthesis keys.For = true
has_parenthesis _ = false

-- the branches of an `if`
abbrev pub branches : Spelt → Rule
branches e = under Sort.Two (λ p. last (Sort.IfTail e p))

-- the body of a contract
abbrev pub contract_body : Spelt → Spelt → Rule
contract_body n l = under Sort.One (λ p. done (opened (contract_of n.tree l.tree p.tree) (max (max n.height l.height) p.height)))

-- what a contract receives, and its body
abbrev pub contract_left : Spelt → Rule
contract_left n = under Sort.Left (λ l. sign marks.Close (sign marks.Assign (contract_body n l)))

-- after the key of a form and the parenthesis, where one follows
abbrev pub after_key : FormKey → Rule
after_key keys.New = last (Sort.Decl [])
after_key keys.If = under (Sort.Par processes) (λ e. sign marks.Close (branches e))
after_key keys.Contract = under Sort.Name (λ n. sign marks.Open (contract_left n))
after_key keys.For = under Sort.Left (λ l. last (Sort.Arrow l))
after_key keys.Match = under Sort.Or (λ t. sign marks.OpenBrace (last (Sort.Case t [] t.height)))

-- what a process is that begins with this form, or with none that reaches over a `|`
abbrev pub after_leading : Option FormKey → Rule
after_leading (Some k) = last (form_sort k)
after_leading None = last Sort.Two

-- the brace that closes a bundle of this
abbrev pub bundle_end : Side → Rights → Spelt → Rule
bundle_end side r a = sign marks.CloseBrace (done (opened (bundle_of side r a.tree) a.height))

-- after the key of a bundle and a brace
abbrev pub after_bundle : Side → Rights → Rule
after_bundle side r = under (Sort.Par side) (bundle_end side r)

-- a send on the name that quotes this process
abbrev pub after_quoted : Spelt → Rule
after_quoted a = last (Sort.SentTail processes (spelt (quote_of a.tree) a.height))

-- a send on the pattern of a name that quotes this pattern
abbrev pub after_quoted_pattern : Spelt → Rule
after_quoted_pattern a = last (Sort.SentTail patterns (spelt (quoted_of a.tree) a.height))

-- after a channel that is written so and a parenthesis
abbrev pub after_sent : {T : Type 0} → Side → (T → Written) → Sending T → Rule
after_sent side written s = under (Sort.Row side round) (λ r. done (opened (send_of side s.persistent (written s.channel.value) r.tree) (max s.channel.height r.height)))

-- after the channel of a send and a parenthesis
abbrev pub after_channel : Sending Name → Rule
after_channel s = under (Sort.Row processes round) (λ r. done (opened (send_of processes s.persistent (name_written s.channel.value) r.tree) (max s.channel.height r.height)))

-- after the pattern of the channel of a send and a parenthesis
abbrev pub after_channel_pattern : Sending NamePat → Rule
after_channel_pattern s = under (Sort.Row patterns round) (λ r. done (opened (send_of patterns s.persistent (name_pat_written s.channel.value) r.tree) (max s.channel.height r.height)))

-- after the step that begins a part of a process
abbrev pub after_term_step : TermStep → Rule
after_term_step (terms.Form k) = last (form_sort k)
after_term_step (terms.Bundle r) = after_bundle processes r
after_term_step terms.Quoted = under Sort.Drop after_quoted
after_term_step (terms.Send s) = after_channel s
after_term_step terms.Chain = last Sort.Or

-- there is room for what it begins
abbrev pub HasRoomForTerm : ℕ → TermStep → Type 0
HasRoomForTerm free (terms.Bundle r) = 0 < free
HasRoomForTerm free terms.Quoted = 0 < free
HasRoomForTerm free (terms.Send s) = s.channel.height < free
HasRoomForTerm free _ = ⊤

-- it took what stands before a constituent
abbrev pub PassesTerm : ℕ → ℕ → TermStep → Type 0
PassesTerm new old (terms.Bundle r) = new < old
PassesTerm new old terms.Quoted = new < old
PassesTerm new old (terms.Send s) = new < old
PassesTerm new old _ = new ≤ old

-- the production of a part of a pattern that is this form
abbrev pub form_part : FormKey → Prod Sort.POne
form_part keys.New = Prod.pone_new
form_part keys.If = Prod.pone_if
form_part keys.Contract = Prod.pone_contract
form_part keys.For = Prod.pone_for
form_part keys.Match = Prod.pone_match

-- that production where such a form is next, or this one
abbrev pub part_or : Option FormKey → Prod Sort.POne → Prod Sort.POne
part_or (Some k) p = form_part k
part_or None p = p

-- the production of a part of a pattern, where this one is left if no such form is next
abbrev pub keyed_part : List Terminal → Prod Sort.POne → Prod Sort.POne
keyed_part ts p = cond (sees marks.New ts) Prod.pone_new (cond (sees marks.If ts) Prod.pone_if (cond (sees marks.Contract ts) Prod.pone_contract (cond (sees marks.For ts) Prod.pone_for (cond (sees marks.Match ts) Prod.pone_match p))))

-- the production of a part of a pattern that is no such form
abbrev pub unkeyed_part : List Terminal → Prod Sort.POne
unkeyed_part ts = cond (sees_bundle ts) Prod.pone_bundle (cond (sees marks.At ts) Prod.pone_quote (cond (sees_any_send ts) Prod.pone_any (cond (sees_send ts) Prod.pone_word Prod.pone_alt)))

-- after the step that begins a part of a pattern
abbrev pub after_part_step : PartStep → Rule
after_part_step (parts.Form k) = at (form_sort k) (λ a. done (closed_of a))
after_part_step (parts.Bundle r) = after_bundle patterns r
after_part_step parts.Quoted = under Sort.PAlt after_quoted_pattern
after_part_step (parts.Send s) = after_channel_pattern s
after_part_step parts.Alternative = last Sort.PAlt

-- there is room for what it begins
abbrev pub HasRoomForPart : ℕ → PartStep → Type 0
HasRoomForPart free (parts.Bundle r) = 0 < free
HasRoomForPart free parts.Quoted = 0 < free
HasRoomForPart free (parts.Send s) = s.channel.height < free
HasRoomForPart free _ = ⊤

-- it took what stands before a constituent
abbrev pub PassesPart : ℕ → ℕ → PartStep → Type 0
PassesPart new old (parts.Bundle r) = new < old
PassesPart new old parts.Quoted = new < old
PassesPart new old (parts.Send s) = new < old
PassesPart new old _ = new ≤ old
