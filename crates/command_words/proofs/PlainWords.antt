-- Plain words: clap has matches for them, and these are what the words say.
use Rattle.std.proofs.Common.{◌≡◌, ◌∙◌, refl, sym, subst, ap, ap₂, cond, true, false, true≢false, [], ◌∷◌, ◌++◌, append-nil, append_assoc, Some, None, map, not, ◌&&◌, ◌||◌, Bool, List, Option, ℕ}
use Rattle.std.specs.Prelude.{fold, find, is_some, option_map, option_and_then, slice_get}
use Rattle.std.specs.List.{list_all, list_any}
use Rattle.std.specs.Str.{bytes_eq}
use Rattle.std.proofs.lemmas.List.{map-append}
use Rattle.std.specs.Option.{option_map_or}
use Rattle.clap.specs.Lexer.{long_of, short_of}
use Rattle.clap.specs.Walk.{Held, Row, Rule, Walk, Waiting, at_row, has_row, default_rows, first_of, idle, is_empty, more_values, option, reading_by, settled_rows, settled, walk_from, walked, with_values, without, with_default, nothing_held}
use Rattle.clap.specs.Simple.{Shape, built, entered, matches_of, new_rule}
use Rattle.clap.specs.Faults.{defaults_fault, entered_fault, fault_of, given_default_fault, level_fault, settle_fault, turn_fault, walk_fault}
use Rattle.clap.specs.Kinds.{Kinds, or_else}
use Rattle.clap.specs.declared.parser.matches.ValueSource.TheVariants.{CommandLine}
use Rattle.command_words.specs.Arguments.{Text, id_of, name_of}
use Rattle.command_words.specs.Clap.{has_matches, matched, rho}
use Rattle.command_words.specs.Plain.{Line, Setting, are_different, begins_with_hyphen, given_by, is_option, is_plain, is_plain_setting, is_same, setting_words, value_of, words_after_verb, words_of}
use Rattle.command_words.specs.declared.argument.Argument.{Argument}
use Rattle.command_words.specs.declared.argument.Argument.TheVariants as argument

-- `rho`, as clap builds it
abbrev shape : Shape
shape = (built rho).top

abbrev rules : List Rule
rules = shape.rules

-- what is pending: an argument and its values
abbrev Pending : Type 0
Pending = Option (Text × List Text)

-- where the walk stands before a word, and what waits
abbrev waiting_at : List Row → Pending → ℕ → Waiting → Walk
waiting_at rows pending position waiting = record {
  held = record { rows = rows; pending = pending; skip = 0 };
  waiting = waiting;
  position = position;
  is_trailing = false;
  stopped = None;
}

abbrev idle_at : List Row → Pending → ℕ → Walk
idle_at rows pending position = waiting_at rows pending position idle

-- ---- a word that does not begin with a hyphen

record IsValue (v : Text) : Type 0 where
  dashes : bytes_eq v (45 ∷ 45 ∷ []) ≡ false
  long : long_of v ≡ None
  short : short_of v ≡ None

is_value : (v : Text) → begins_with_hyphen v ≡ false → IsValue v
is_value [] e = record { dashes = refl; long = refl; short = refl }
is_value (x ∷ xs) e = record { dashes = rw e refl; long = rw e refl; short = rw e refl }

-- ---- an option's word, and its value

option_step : (a : Argument) → is_option a ≡ true → (rows : List Row) (pending : Pending) (position : ℕ)
    → walked rules [] (idle_at rows pending position) (name_of a)
    ≡ waiting_at (settled_rows rules pending rows) (Some (id_of a, [])) position (option (id_of a))
unfolding walked
option_step argument.State e rows pending position = refl
option_step argument.Prices e rows pending position = refl
option_step argument.Limit e rows pending position = refl
option_step argument.Log e rows pending position = refl
option_step argument.Next e rows pending position = refl
option_step argument.Workers e rows pending position = refl
option_step argument.Steps e rows pending position = refl
option_step argument.Verb e rows pending position = absurd (true≢false (sym e))
option_step argument.File e rows pending position = absurd (true≢false (sym e))

value_step : (a : Argument) → (v : Text) → IsValue v → (rows : List Row) (position : ℕ)
    → walked rules [] (waiting_at rows (Some (id_of a, [])) position (option (id_of a))) v
    ≡ idle_at rows (Some (id_of a, v ∷ [])) position
unfolding walked
value_step argument.Verb v is rows position = rw (is.dashes, is.long, is.short) refl
value_step argument.File v is rows position = rw (is.dashes, is.long, is.short) refl
value_step argument.State v is rows position = rw (is.dashes, is.long, is.short) refl
value_step argument.Prices v is rows position = rw (is.dashes, is.long, is.short) refl
value_step argument.Limit v is rows position = rw (is.dashes, is.long, is.short) refl
value_step argument.Log v is rows position = rw (is.dashes, is.long, is.short) refl
value_step argument.Next v is rows position = rw (is.dashes, is.long, is.short) refl
value_step argument.Workers v is rows position = rw (is.dashes, is.long, is.short) refl
value_step argument.Steps v is rows position = rw (is.dashes, is.long, is.short) refl

-- the faults of these two words: only what was pending before them may have one
option_fault : (a : Argument) → is_option a ≡ true → (rows : List Row) (pending : Pending) (position : ℕ)
    → turn_fault shape [] (idle_at rows pending position) (name_of a)
    ≡ or_else (settle_fault rules false (record { rows = rows; pending = pending; skip = 0 })) []
option_fault argument.State e rows pending position = refl
option_fault argument.Prices e rows pending position = refl
option_fault argument.Limit e rows pending position = refl
option_fault argument.Log e rows pending position = refl
option_fault argument.Next e rows pending position = refl
option_fault argument.Workers e rows pending position = refl
option_fault argument.Steps e rows pending position = refl
option_fault argument.Verb e rows pending position = absurd (true≢false (sym e))
option_fault argument.File e rows pending position = absurd (true≢false (sym e))

value_fault : (id : Text) → (v : Text) → IsValue v → (rows : List Row) (position : ℕ)
    → turn_fault shape [] (waiting_at rows (Some (id, [])) position (option id)) v ≡ []
value_fault id v is rows position = rw (is.dashes, is.long, is.short) refl

-- ---- rows

-- the row of an argument with one value
abbrev row : Setting → Row
row s = record { id = id_of s.0; values = s.1 ∷ []; count = None; source = Some CommandLine; reading = reading_by (new_rule (id_of s.0)) }

abbrev has : List Setting → Argument → Bool
has done a = list_any (λ s. is_same s.0 a) done

has_row-map : (done : List Setting) (a : Argument) → has_row (id_of a) (map row done) ≡ has done a
has_row-map [] a = refl
has_row-map (s ∷ rest) a = ap (λ b. is_same s.0 a || b) (has_row-map rest a)

-- rows without a row of an argument
no_row : (id : Text) (change : Row → List Row) (missing rows : List Row) → has_row id rows ≡ false → at_row id change missing rows ≡ rows ++ missing
no_row id change missing [] e = refl
no_row id change missing (r ∷ rs) e = go (bytes_eq r.id id) (no_row id change missing rs) e
  where
    go : (b : Bool) → (has_row id rs ≡ false → at_row id change missing rs ≡ rs ++ missing) → (b || has_row id rs) ≡ false
        → cond b (change r ++ rs) (r ∷ at_row id change missing rs) ≡ r ∷ rs ++ missing
    go true rest h = absurd (true≢false h)
    go false rest h = ap (λ tail. r ∷ tail) (rest h)

-- an argument is used with one value
use_is : (a : Argument) (v : Text) (rows : List Row) → settled_rows rules (Some (id_of a, v ∷ [])) rows
    ≡ with_values (id_of a) (reading_by (new_rule (id_of a))) CommandLine (v ∷ []) (without (id_of a) rows)
use_is argument.Verb v rows = refl
use_is argument.File v rows = refl
use_is argument.State v rows = refl
use_is argument.Prices v rows = refl
use_is argument.Limit v rows = refl
use_is argument.Log v rows = refl
use_is argument.Next v rows = refl
use_is argument.Workers v rows = refl
use_is argument.Steps v rows = refl

-- an argument that has no row gets one at the end
row_added : (s : Setting) (done : List Setting) → has done s.0 ≡ false → settled_rows rules (Some (id_of s.0, s.1 ∷ [])) (map row done) ≡ map row (done ++ s ∷ [])
row_added s done e =
    let none : has_row (id_of s.0) (map row done) ≡ false = has_row-map done s.0 ∙ e in
    use_is s.0 s.1 (map row done)
    ∙ ap (with_values (id_of s.0) (reading_by (new_rule (id_of s.0))) CommandLine (s.1 ∷ [])) (no_row (id_of s.0) (λ _. []) [] (map row done) none ∙ append-nil (map row done))
    ∙ no_row (id_of s.0) (more_values CommandLine (s.1 ∷ [])) (row s ∷ []) (map row done) none ∙ sym (map-append row done (s ∷ []))

-- and may be used
use_passes : (a : Argument) (v : Text) (rows : List Row) → has_row (id_of a) rows ≡ false
    → settle_fault rules false (record { rows = rows; pending = Some (id_of a, v ∷ []); skip = 0 }) ≡ []
use_passes argument.Verb v rows none = rw none refl
use_passes argument.File v rows none = rw none refl
use_passes argument.State v rows none = rw none refl
use_passes argument.Prices v rows none = rw none refl
use_passes argument.Limit v rows none = rw none refl
use_passes argument.Log v rows none = rw none refl
use_passes argument.Next v rows none = rw none refl
use_passes argument.Workers v rows none = rw none refl
use_passes argument.Steps v rows none = rw none refl

-- ---- the walk

-- a walk over words has no fault, and ends with one row for each argument with its value
record Ends (from : Walk) (words : List Text) (all : List Setting) : Type 0 where
  fault : walk_fault shape [] from words ≡ []
  settles : settle_fault rules false (fold (walked rules []) from words).held ≡ []
  rows : settled_rows rules (fold (walked rules []) from words).held.pending (fold (walked rules []) from words).held.rows ≡ map row all
  stops : (fold (walked rules []) from words).stopped ≡ None

and_both : (a b : Bool) → (a && b) ≡ true → (a ≡ true) × (b ≡ true)
and_both true b e = (refl, e)
and_both false b e = absurd (true≢false (sym e))

is_not : (b : Bool) → not b ≡ true → b ≡ false
is_not true e = absurd (true≢false (sym e))
is_not false e = refl

-- a word without a fault comes before the others
one_more : (from after : Walk) (word : Text) (words : List Text) (all : List Setting) → walked rules [] from word ≡ after → turn_fault shape [] from word ≡ []
    → Ends after words all → Ends from (word ∷ words) all
unfolding walk_fault
one_more from after word words all is passes ends = record {
  fault = ap₂ (λ (f : Kinds) (w : Walk). or_else f (walk_fault shape [] w words)) passes is ∙ ends.fault;
  settles = ap (λ w. settle_fault rules false (fold (walked rules []) w words).held) is ∙ ends.settles;
  rows = ap (λ w. settled_rows rules (fold (walked rules []) w words).held.pending (fold (walked rules []) w words).held.rows) is ∙ ends.rows;
  stops = ap (λ w. (fold (walked rules []) w words).stopped) is ∙ ends.stops;
}

-- the value of an argument is pending, and no row is there for it
record IsPending (done : List Setting) (rows : List Row) (s : Setting) : Type 0 where
  none : has_row (id_of s.0) rows ≡ false
  becomes : settled_rows rules (Some (id_of s.0, s.1 ∷ [])) rows ≡ map row done

abbrev pending : Setting → Pending
pending s = Some (id_of s.0, s.1 ∷ [])

-- none of the options is done
abbrev are_new : List Setting → List Setting → Bool
are_new done settings = list_all (λ s. not (has done s.0)) settings

has_end : (done : List Setting) (s : Setting) (a : Argument) → has done a ≡ false → is_same s.0 a ≡ false → has (done ++ s ∷ []) a ≡ false
has_end [] s a new other = rw other refl
has_end (d ∷ done) s a new other = go (is_same d.0 a) (has_end done s a) new
  where
    go : (b : Bool) → (has done a ≡ false → is_same s.0 a ≡ false → has (done ++ s ∷ []) a ≡ false) → (b || has done a) ≡ false → (b || has (done ++ s ∷ []) a) ≡ false
    go true rest h = absurd (true≢false h)
    go false rest h = rest h other

either_not : (a b : Bool) → not (a || b) ≡ true → (a ≡ false) × (not b ≡ true)
either_not true b e = absurd (true≢false (sym e))
either_not false b e = (refl, e)

still_new : (done rest : List Setting) (s : Setting) → are_new done rest ≡ true → not (list_any (λ t. is_same s.0 t.0) rest) ≡ true → are_new (done ++ s ∷ []) rest ≡ true
still_new done [] s new others = refl
still_new done (t ∷ rest) s new others =
    let here = and_both (not (has done t.0)) (are_new done rest) new in
    let apart = either_not (is_same s.0 t.0) (list_any (λ u. is_same s.0 u.0) rest) others in
    let fresh : has (done ++ s ∷ []) t.0 ≡ false = has_end done s t.0 (is_not (has done t.0) here.0) apart.0 in
    rw fresh (still_new done rest s here.1 apart.1)

-- options with their values, after what is done
settings_end : (settings done : List Setting) (rows : List Row) (last : Setting) (position : ℕ) → IsPending done rows last
    → list_all is_plain_setting settings ≡ true → are_new done settings ≡ true → are_different settings ≡ true
    → Ends (idle_at rows (pending last) position) (setting_words settings) (done ++ settings)
unfolding walk_fault
settings_end [] done rows last position at plain new different = record {
  fault = refl;
  settles = use_passes last.0 last.1 rows at.none;
  rows = at.becomes ∙ ap (map row) (sym (append-nil done));
  stops = refl;
}
settings_end (s ∷ rest) done rows last position at plain new different =
    let plain_s = and_both (is_plain_setting s) (list_all is_plain_setting rest) plain in
    let parts = and_both (is_option s.0) (not (begins_with_hyphen s.1)) plain_s.0 in
    let new_s = and_both (not (has done s.0)) (are_new done rest) new in
    let different_s = and_both (not (list_any (λ t. is_same s.0 t.0) rest)) (are_different rest) different in
    let value : IsValue s.1 = is_value s.1 (is_not (begins_with_hyphen s.1) parts.1) in
    let after = settled_rows rules (pending last) rows in
    let absent : has done s.0 ≡ false = is_not (has done s.0) new_s.0 in
    let next : IsPending (done ++ s ∷ []) after s = record {
      none = ap (has_row (id_of s.0)) at.becomes ∙ has_row-map done s.0 ∙ absent;
      becomes = ap (settled_rows rules (pending s)) at.becomes ∙ row_added s done absent;
    } in
    let ends = settings_end rest (done ++ s ∷ []) after s position next plain_s.1 (still_new done rest s new_s.1 different_s.0) different_s.1 in
    let whole : Ends (idle_at after (pending s) position) (setting_words rest) (done ++ s ∷ rest) =
    subst (Ends (idle_at after (pending s) position) (setting_words rest)) (append_assoc done (s ∷ []) rest) ends in
    one_more _ _ (name_of s.0) (s.1 ∷ setting_words rest) (done ++ s ∷ rest) (option_step s.0 parts.0 rows (pending last) position)
    (option_fault s.0 parts.0 rows (pending last) position ∙ ap (λ f. or_else f []) (use_passes last.0 last.1 rows at.none))
    (one_more _ _ s.1 (setting_words rest) (done ++ s ∷ rest) (value_step s.0 s.1 value after position)
    (value_fault (id_of s.0) s.1 value after position) whole)

-- ---- the verb and the file

verb_step : (v : Text) → IsValue v → walked rules [] (walk_from nothing_held) v ≡ idle_at [] (pending (argument.Verb, v)) 2
unfolding walked
verb_step v is = rw (is.dashes, is.long, is.short) refl

verb_fault : (v : Text) → IsValue v → turn_fault shape [] (walk_from nothing_held) v ≡ []
verb_fault v is = rw (is.dashes, is.long, is.short) refl

file_step : (v f : Text) → IsValue f → walked rules [] (idle_at [] (pending (argument.Verb, v)) 2) f
    ≡ idle_at (settled_rows rules (pending (argument.Verb, v)) []) (pending (argument.File, f)) 3
unfolding walked
file_step v f is = rw (is.dashes, is.long, is.short) refl

file_fault : (v f : Text) → IsValue f → turn_fault shape [] (idle_at [] (pending (argument.Verb, v)) 2) f ≡ []
file_fault v f is = rw (is.dashes, is.long, is.short) refl

-- ---- a whole line

-- what a line has, in the order of its words
abbrev parts_after_verb : Option Text → List Setting → List Setting
parts_after_verb None settings = settings
parts_after_verb (Some file) settings = (argument.File, file) ∷ settings

abbrev parts : Line → List Setting
parts line = (argument.Verb, line.verb) ∷ parts_after_verb line.file line.settings

-- no option is the verb or the file
option_differs : (a : Argument) → is_option a ≡ true → (is_same argument.Verb a ≡ false) × (is_same argument.File a ≡ false)
option_differs argument.Verb e = absurd (true≢false (sym e))
option_differs argument.File e = absurd (true≢false (sym e))
option_differs argument.State e = (refl, refl)
option_differs argument.Prices e = (refl, refl)
option_differs argument.Limit e = (refl, refl)
option_differs argument.Log e = (refl, refl)
option_differs argument.Next e = (refl, refl)
option_differs argument.Workers e = (refl, refl)
option_differs argument.Steps e = (refl, refl)

plain_option : (s : Setting) (rest : List Setting) → list_all is_plain_setting (s ∷ rest) ≡ true → (is_option s.0 ≡ true) × (list_all is_plain_setting rest ≡ true)
plain_option s rest plain =
    let both = and_both (is_plain_setting s) (list_all is_plain_setting rest) plain in
    ((and_both (is_option s.0) (not (begins_with_hyphen s.1)) both.0).0, both.1)

new_after_verb : (v : Text) (settings : List Setting) → list_all is_plain_setting settings ≡ true → are_new ((argument.Verb, v) ∷ []) settings ≡ true
new_after_verb v [] plain = refl
new_after_verb v (s ∷ rest) plain =
    let p = plain_option s rest plain in
    rw ((option_differs s.0 p.0).0) (new_after_verb v rest p.1)

new_after_file : (v f : Text) (settings : List Setting) → list_all is_plain_setting settings ≡ true
    → are_new ((argument.Verb, v) ∷ (argument.File, f) ∷ []) settings ≡ true
new_after_file v f [] plain = refl
new_after_file v f (s ∷ rest) plain =
    let p = plain_option s rest plain in
    rw ((option_differs s.0 p.0).0, (option_differs s.0 p.0).1) (new_after_file v f rest p.1)

after_verb : (v : Text) (file : Option Text) (settings : List Setting) → option_map_or (λ f. not (begins_with_hyphen f)) file true ≡ true
    → list_all is_plain_setting settings ≡ true → are_different settings ≡ true
    → Ends (idle_at [] (pending (argument.Verb, v)) 2) (words_after_verb file settings) ((argument.Verb, v) ∷ parts_after_verb file settings)
after_verb v None settings f plain different = settings_end settings ((argument.Verb, v) ∷ []) [] (argument.Verb, v) 2 (record { none = refl; becomes = refl })
    plain (new_after_verb v settings plain) different
after_verb v (Some file) settings f plain different =
    let value : IsValue file = is_value file (is_not (begins_with_hyphen file) f) in
    one_more _ _ file (setting_words settings) ((argument.Verb, v) ∷ (argument.File, file) ∷ settings) (file_step v file value) (file_fault v file value)
    (settings_end settings ((argument.Verb, v) ∷ (argument.File, file) ∷ []) (settled_rows rules (pending (argument.Verb, v)) []) (argument.File, file) 3 (record { none = refl; becomes = refl })
    plain (new_after_file v file settings plain) different)

line_ends : (line : Line) → is_plain line ≡ true → Ends (walk_from nothing_held) (words_of line) (parts line)
line_ends line plain =
    let verb = and_both (not (begins_with_hyphen line.verb)) _ plain in
    let file = and_both (option_map_or (λ f. not (begins_with_hyphen f)) line.file true) _ verb.1 in
    let settings = and_both (list_all is_plain_setting line.settings) (are_different line.settings) file.1 in
    let value : IsValue line.verb = is_value line.verb (is_not (begins_with_hyphen line.verb) verb.0) in
    one_more _ _ line.verb (words_after_verb line.file line.settings) (parts line) (verb_step line.verb value) (verb_fault line.verb value)
    (after_verb line.verb line.file line.settings file.0 settings.0 settings.1)

-- ---- after the walk

abbrev is_none : List Text → Bool
is_none [] = true
is_none (x ∷ xs) = false

no_faults_of_defaults : (rows : List Row) (xs : List Rule) → list_all (λ (a : Rule). is_none a.defaults) xs ≡ true → defaults_fault rows xs ≡ []
unfolding defaults_fault
no_faults_of_defaults rows [] none = refl
no_faults_of_defaults rows (a ∷ xs) none =
    let both = and_both (is_none a.defaults) (list_all (λ (x : Rule). is_none x.defaults) xs) none in
    go (has_row a.id rows) a.defaults both.0 (no_faults_of_defaults (with_default rows a) xs both.1)
  where
    go : (b : Bool) (defaults : List Text) → is_none defaults ≡ true → defaults_fault (with_default rows a) xs ≡ []
        → or_else (cond (b || is_empty defaults) [] (given_default_fault a defaults)) (defaults_fault (with_default rows a) xs) ≡ []
    go true defaults e rest = rest
    go false [] e rest = rest
    go false (d ∷ defaults) e rest = absurd (true≢false (sym e))

unchanged : (a : Rule) (rows : List Row) → is_none a.defaults ≡ true → with_default rows a ≡ rows
unchanged a rows none = go (has_row a.id rows) a.defaults none
  where
    go : (b : Bool) (defaults : List Text) → is_none defaults ≡ true → cond b rows (default_rows a.id (reading_by a) defaults rows) ≡ rows
    go true defaults e = refl
    go false [] e = refl
    go false (d ∷ defaults) e = absurd (true≢false (sym e))

no_defaults : (rows : List Row) (xs : List Rule) → list_all (λ (a : Rule). is_none a.defaults) xs ≡ true → fold with_default rows xs ≡ rows
no_defaults rows [] none = refl
no_defaults rows (a ∷ xs) none =
    let both = and_both (is_none a.defaults) (list_all (λ (x : Rule). is_none x.defaults) xs) none in
    ap (λ r. fold with_default r xs) (unchanged a rows both.0) ∙ no_defaults rows xs both.1

-- clap has matches for words of which the walk has no fault, and their rows are those of the walk
no_fault : (words : List Text) (all : List Setting) → Ends (walk_from nothing_held) words all → fault_of rho words ≡ []
no_fault words all ends =
    let end : Held = (fold (walked rules []) (walk_from nothing_held) words).held in
    ap (λ stop. level_fault shape [] nothing_held words (is_some (entered (built rho) stop)) (entered_fault (built rho) stop)) ends.stops
    ∙ ap (λ f. or_else f (or_else [] (or_else (settle_fault rules false end) (or_else (defaults_fault (settled rules end).rows rules) [])))) ends.fault
    ∙ ap (λ f. or_else f (or_else (defaults_fault (settled rules end).rows rules) [])) ends.settles
    ∙ ap (λ f. or_else f []) (no_faults_of_defaults (settled rules end).rows rules refl)

rows_are : (words : List Text) (all : List Setting) → Ends (walk_from nothing_held) words all → matches_of rho words ≡ map row all
rows_are words all ends = no_defaults _ rules refl ∙ ends.rows

-- ---- what the rows give

first_is : (all : List Setting) (a : Argument) → first_of (id_of a) (map row all) ≡ value_of all a
first_is [] a = refl
first_is (s ∷ rest) a = go (is_same s.0 a) (first_is rest a)
  where
    go : (b : Bool) → first_of (id_of a) (map row rest) ≡ value_of rest a
        → option_and_then (λ (r : Row). slice_get r.values 0) (cond b (Some (row s)) (find (λ r. bytes_eq r.id (id_of a)) (map row rest)))
        ≡ option_map (λ (t : Setting). t.1) (cond b (Some s) (find (λ t. is_same t.0 a) rest))
    go true e = refl
    go false e = e

no_file_here : (a : Argument) → is_option a ≡ true → is_same a argument.File ≡ false
no_file_here argument.Verb e = absurd (true≢false (sym e))
no_file_here argument.File e = absurd (true≢false (sym e))
no_file_here argument.State e = refl
no_file_here argument.Prices e = refl
no_file_here argument.Limit e = refl
no_file_here argument.Log e = refl
no_file_here argument.Next e = refl
no_file_here argument.Workers e = refl
no_file_here argument.Steps e = refl

no_file : (settings : List Setting) → list_all is_plain_setting settings ≡ true → value_of settings argument.File ≡ None
no_file [] plain = refl
no_file (s ∷ rest) plain =
    let p = plain_option s rest plain in
    rw (no_file_here s.0 p.0) (no_file rest p.1)

settings_of_file : (a : Argument) → is_option a ≡ true → (file : Option Text) (settings : List Setting) → value_of (parts_after_verb file settings) a ≡ value_of settings a
settings_of_file a e None settings = refl
settings_of_file a e (Some f) settings = rw ((option_differs a e).1) refl

file_is : (file : Option Text) (settings : List Setting) → list_all is_plain_setting settings ≡ true → value_of (parts_after_verb file settings) argument.File ≡ file
file_is None settings plain = no_file settings plain
file_is (Some f) settings plain = refl

settings_are_plain : (line : Line) → is_plain line ≡ true → list_all is_plain_setting line.settings ≡ true
settings_are_plain line plain =
    let verb = and_both (not (begins_with_hyphen line.verb)) _ plain in
    let file = and_both (option_map_or (λ f. not (begins_with_hyphen f)) line.file true) _ verb.1 in
    (and_both (list_all is_plain_setting line.settings) (are_different line.settings) file.1).0

given_is : (line : Line) → is_plain line ≡ true → (a : Argument) → value_of (parts line) a ≡ given_by line a
given_is line plain argument.Verb = refl
given_is line plain argument.File = file_is line.file line.settings (settings_are_plain line plain)
given_is line plain argument.State = settings_of_file argument.State refl line.file line.settings
given_is line plain argument.Prices = settings_of_file argument.Prices refl line.file line.settings
given_is line plain argument.Limit = settings_of_file argument.Limit refl line.file line.settings
given_is line plain argument.Log = settings_of_file argument.Log refl line.file line.settings
given_is line plain argument.Next = settings_of_file argument.Next refl line.file line.settings
given_is line plain argument.Workers = settings_of_file argument.Workers refl line.file line.settings
given_is line plain argument.Steps = settings_of_file argument.Steps refl line.file line.settings

-- clap has matches for a plain line, and they are what the line gives
pub plain_has_matches : (line : Line) → is_plain line ≡ true → has_matches (words_of line) ≡ true
plain_has_matches line plain = ap is_empty (no_fault (words_of line) (parts line) (line_ends line plain))

pub plain_is_matched : (line : Line) → is_plain line ≡ true → (a : Argument) → matched (words_of line) a ≡ given_by line a
plain_is_matched line plain a = ap (first_of (id_of a)) (rows_are (words_of line) (parts line) (line_ends line plain)) ∙ first_is (parts line) a ∙ given_is line plain a
