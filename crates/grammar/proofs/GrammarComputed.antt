-- The worked examples, by computation.
use Rattle.std.proofs.Common.{[], ◌∷◌, refl}
use Rattle.tokens.specs.Token.{source}
use Rattle.grammar.specs.GrammarExamples.{num, blocks}
use Rattle.grammar.specs.Rules.{Par, last}
use Rattle.grammar.specs.Terminals.{mark, terminals}
use Rattle.grammar.specs.Values.{spelt, processes}
use Rattle.grammar.specs.declared.mark.Mark.TheVariants as marks
use Rattle.grammar.specs.GrammarExamples.{SendsOne, LeansLeft, Tightness, MinusOfMinus, LeastInt, CallOnMinusOne, EmptyMap, Block, MapOfOne, TupleOfOne, ParInPar, DropOfName, DropOfQuote, IfWithoutElse, Contracts, JoinsTwo, BindsRest, CaseOfMinusOne, SameAsOutside, ListPattern, ClosedPattern, FixedName, PrintedBytes, PrintedName, PersistentJoin, PeekJoin, SixteenBinds, TwoHundredBlocks, LiteralAlone, TwoBars, OpenSend, PrefixOfNothing, CaseOfMinus, NoCase, IfInIf, OtherArrow, OtherThirdArrow, MixedSeparators, SeventeenBinds, CommaWithoutName, CommaWithoutMember, SendIsOpened, QuotedSendIsOpened, SecondSumIsOpened, CallIsOpened, SecondCallIsOpened, SecondEitherIsOpened, SecondBothIsOpened, AnySendIsOpened, PrefixIsOpened, QuotedDropIsOpened, InnerBlockIsOpened, ConnectiveIsOpened, OneBlockMore, OperatorsAreOpened, FormsAreOpened, PatternFormsAreOpened}
use Rattle.grammar.specs.declared.dialect.Dialect.TheVariants.{Tutorial}
use Rattle.grammar.proofs.Descending.{read_so, stops_so, refused_so}

pub sends_one : SendsOne
sends_one = read_so Tutorial _ _ _ _ refl

pub leans_left : LeansLeft
leans_left = read_so Tutorial _ _ _ _ refl

pub tightness : Tightness
tightness = read_so Tutorial _ _ _ _ refl

pub minus_of_minus : MinusOfMinus
minus_of_minus = read_so Tutorial _ _ _ _ refl

pub least_int : LeastInt
least_int = read_so Tutorial _ _ _ _ refl

pub call_on_minus_one : CallOnMinusOne
call_on_minus_one = read_so Tutorial _ _ _ _ refl

pub empty_map : EmptyMap
empty_map = read_so Tutorial _ _ _ _ refl

pub block : Block
block = read_so Tutorial _ _ _ _ refl

pub map_of_one : MapOfOne
map_of_one = read_so Tutorial _ _ _ _ refl

pub tuple_of_one : TupleOfOne
tuple_of_one = read_so Tutorial _ _ _ _ refl

pub par_in_par : ParInPar
par_in_par = read_so Tutorial _ _ _ _ refl

pub drop_of_name : DropOfName
drop_of_name = read_so Tutorial _ _ _ _ refl

pub drop_of_quote : DropOfQuote
drop_of_quote = read_so Tutorial _ _ _ _ refl

pub if_without_else : IfWithoutElse
if_without_else = read_so Tutorial _ _ _ _ refl

pub contracts : Contracts
contracts = read_so Tutorial _ _ _ _ refl

pub joins_two : JoinsTwo
joins_two = read_so Tutorial _ _ _ _ refl

pub binds_rest : BindsRest
binds_rest = read_so Tutorial _ _ _ _ refl

pub case_of_minus_one : CaseOfMinusOne
case_of_minus_one = read_so Tutorial _ _ _ _ refl

pub same_as_outside : SameAsOutside
same_as_outside = read_so Tutorial _ _ _ _ refl

pub list_pattern : ListPattern
list_pattern = read_so Tutorial _ _ _ _ refl

pub closed_pattern : ClosedPattern
closed_pattern = read_so Tutorial _ _ _ _ refl

pub fixed_name : FixedName
fixed_name = read_so Tutorial _ _ _ _ refl

pub printed_bytes : PrintedBytes
printed_bytes = read_so Tutorial _ _ _ _ refl

pub printed_name : PrintedName
printed_name = read_so Tutorial _ _ _ _ refl

pub persistent_join : PersistentJoin
persistent_join = read_so Tutorial _ _ _ _ refl

pub peek_join : PeekJoin
peek_join = read_so Tutorial _ _ _ _ refl

pub sixteen_binds : SixteenBinds
sixteen_binds = read_so Tutorial _ _ _ _ refl

pub two_hundred_blocks : TwoHundredBlocks
two_hundred_blocks = read_so Tutorial (last (Par processes)) (terminals source (blocks 200)) (spelt (num 1) 200) (mark marks.End ∷ []) refl

pub literal_alone : LiteralAlone
literal_alone = refused_so Tutorial _ _ refl

pub two_bars : TwoBars
two_bars = refused_so Tutorial _ _ refl

pub open_send : OpenSend
open_send = refused_so Tutorial _ _ refl

pub prefix_of_nothing : PrefixOfNothing
prefix_of_nothing = refused_so Tutorial _ _ refl

pub case_of_minus : CaseOfMinus
case_of_minus = refused_so Tutorial _ _ refl

pub no_case : NoCase
no_case = refused_so Tutorial _ _ refl

pub if_in_if : IfInIf
if_in_if = refused_so Tutorial _ _ refl

pub other_arrow : OtherArrow
other_arrow = refused_so Tutorial _ _ refl

pub other_third_arrow : OtherThirdArrow
other_third_arrow = refused_so Tutorial _ _ refl

pub mixed_separators : MixedSeparators
mixed_separators = refused_so Tutorial _ _ refl

pub seventeen_binds : SeventeenBinds
seventeen_binds = refused_so Tutorial _ _ refl

pub comma_without_name : CommaWithoutName
comma_without_name = refused_so Tutorial _ _ refl

pub comma_without_member : CommaWithoutMember
comma_without_member = refused_so Tutorial _ _ refl

pub send_is_opened : SendIsOpened
send_is_opened = stops_so Tutorial _ _ _ _ _ refl

pub quoted_send_is_opened : QuotedSendIsOpened
quoted_send_is_opened = stops_so Tutorial _ _ _ _ _ refl

pub second_sum_is_opened : SecondSumIsOpened
second_sum_is_opened = stops_so Tutorial _ _ _ _ _ refl

pub call_is_opened : CallIsOpened
call_is_opened = stops_so Tutorial _ _ _ _ _ refl

pub second_call_is_opened : SecondCallIsOpened
second_call_is_opened = stops_so Tutorial _ _ _ _ _ refl

pub second_either_is_opened : SecondEitherIsOpened
second_either_is_opened = stops_so Tutorial _ _ _ _ _ refl

pub second_both_is_opened : SecondBothIsOpened
second_both_is_opened = stops_so Tutorial _ _ _ _ _ refl

pub any_send_is_opened : AnySendIsOpened
any_send_is_opened = stops_so Tutorial _ _ _ _ _ refl

pub prefix_is_opened : PrefixIsOpened
prefix_is_opened = stops_so Tutorial _ _ _ _ _ refl

pub quoted_drop_is_opened : QuotedDropIsOpened
quoted_drop_is_opened = stops_so Tutorial _ _ _ _ _ refl

pub inner_block_is_opened : InnerBlockIsOpened
inner_block_is_opened = stops_so Tutorial _ _ _ _ _ refl

pub connective_is_opened : ConnectiveIsOpened
connective_is_opened = stops_so Tutorial _ _ _ _ _ refl

pub one_block_more : OneBlockMore
one_block_more = stops_so Tutorial _ _ _ _ _ refl

pub operators_are_opened : OperatorsAreOpened
operators_are_opened = (stops_so Tutorial _ _ _ _ _ refl, stops_so Tutorial _ _ _ _ _ refl, stops_so Tutorial _ _ _ _ _ refl, stops_so Tutorial _ _ _ _ _ refl, stops_so Tutorial _ _ _ _ _ refl, stops_so Tutorial _ _ _ _ _ refl, stops_so Tutorial _ _ _ _ _ refl, stops_so Tutorial _ _ _ _ _ refl, stops_so Tutorial _ _ _ _ _ refl, stops_so Tutorial _ _ _ _ _ refl, stops_so Tutorial _ _ _ _ _ refl, stops_so Tutorial _ _ _ _ _ refl, stops_so Tutorial _ _ _ _ _ refl, stops_so Tutorial _ _ _ _ _ refl, stops_so Tutorial _ _ _ _ _ refl)

pub forms_are_opened : FormsAreOpened
forms_are_opened = (stops_so Tutorial _ _ _ _ _ refl, stops_so Tutorial _ _ _ _ _ refl, stops_so Tutorial _ _ _ _ _ refl, stops_so Tutorial _ _ _ _ _ refl, stops_so Tutorial _ _ _ _ _ refl, stops_so Tutorial _ _ _ _ _ refl, stops_so Tutorial _ _ _ _ _ refl, stops_so Tutorial _ _ _ _ _ refl, stops_so Tutorial _ _ _ _ _ refl, stops_so Tutorial _ _ _ _ _ refl, stops_so Tutorial _ _ _ _ _ refl, stops_so Tutorial _ _ _ _ _ refl, stops_so Tutorial _ _ _ _ _ refl, stops_so Tutorial _ _ _ _ _ refl, stops_so Tutorial _ _ _ _ _ refl)

pub pattern_forms_are_opened : PatternFormsAreOpened
pattern_forms_are_opened = (stops_so Tutorial _ _ _ _ _ refl, stops_so Tutorial _ _ _ _ _ refl, stops_so Tutorial _ _ _ _ _ refl, stops_so Tutorial _ _ _ _ _ refl, stops_so Tutorial _ _ _ _ _ refl, stops_so Tutorial _ _ _ _ _ refl, stops_so Tutorial _ _ _ _ _ refl, stops_so Tutorial _ _ _ _ _ refl, stops_so Tutorial _ _ _ _ _ refl, stops_so Tutorial _ _ _ _ _ refl, stops_so Tutorial _ _ _ _ _ refl, stops_so Tutorial _ _ _ _ _ refl, stops_so Tutorial _ _ _ _ _ refl, stops_so Tutorial _ _ _ _ _ refl, stops_so Tutorial _ _ _ _ _ refl, stops_so Tutorial _ _ _ _ _ refl)
