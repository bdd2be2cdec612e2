-- Each public function's contract determines its answer.
use Rattle.text.proofs.Determined.{Seen, Determined, same_both}
use Rattle.text.proofs.classes.is_in.Kinds as is_in_kinds
use Rattle.text.proofs.classes.is_in.Reads as is_in_reads
use Rattle.text.proofs.classes.all_of.Kinds as all_of_kinds
use Rattle.text.proofs.classes.all_of.Reads as all_of_reads
use Rattle.text.proofs.classes.all_within.Kinds as all_within_kinds
use Rattle.text.proofs.classes.all_within.Reads as all_within_reads
use Rattle.text.proofs.classes.run_of.Kinds as run_of_kinds
use Rattle.text.proofs.classes.run_of.Reads as run_of_reads
use Rattle.text.proofs.parts.byte_at.Kinds as byte_at_kinds
use Rattle.text.proofs.parts.byte_at.Reads as byte_at_reads
use Rattle.text.proofs.parts.rest.Kinds as rest_kinds
use Rattle.text.proofs.parts.rest.Reads as rest_reads
use Rattle.text.proofs.parts.head.Kinds as head_kinds
use Rattle.text.proofs.parts.head.Reads as head_reads
use Rattle.text.proofs.parts.part.Kinds as part_kinds
use Rattle.text.proofs.parts.part.Reads as part_reads
use Rattle.text.proofs.words.starts_with.Kinds as starts_with_kinds
use Rattle.text.proofs.words.starts_with.Reads as starts_with_reads
use Rattle.text.proofs.words.same.Kinds as same_kinds
use Rattle.text.proofs.words.same.Reads as same_reads
use Rattle.text.proofs.words.one_of.Kinds as one_of_kinds
use Rattle.text.proofs.words.one_of.Reads as one_of_reads
use Rattle.text.proofs.words.shaped.Kinds as shaped_kinds
use Rattle.text.proofs.words.shaped.Reads as shaped_reads
use Rattle.text.proofs.loads.word.Kinds as word_kinds
use Rattle.text.proofs.loads.word.Reads as word_reads
use Rattle.text.proofs.loads.begins_with.Kinds as begins_with_kinds
use Rattle.text.proofs.loads.begins_with.Reads as begins_with_reads
use Rattle.text.proofs.loads.next_row.Kinds as next_row_kinds
use Rattle.text.proofs.loads.next_row.Reads as next_row_reads
use Rattle.text.proofs.numbers.digit_of.Kinds as digit_of_kinds
use Rattle.text.proofs.numbers.digit_of.Reads as digit_of_reads
use Rattle.text.proofs.numbers.number_in.Kinds as number_in_kinds
use Rattle.text.proofs.numbers.number_in.Reads as number_in_reads
use Rattle.text.proofs.numbers.joined_number.Kinds as joined_number_kinds
use Rattle.text.proofs.numbers.joined_number.Reads as joined_number_reads
use Rattle.text.proofs.numbers.two_digits.Kinds as two_digits_kinds
use Rattle.text.proofs.numbers.two_digits.Reads as two_digits_reads
use Rattle.text.proofs.numbers.four_digits.Kinds as four_digits_kinds
use Rattle.text.proofs.numbers.four_digits.Reads as four_digits_reads
use Rattle.text.proofs.numbers.eight_digits.Kinds as eight_digits_kinds
use Rattle.text.proofs.numbers.eight_digits.Reads as eight_digits_reads
use Rattle.text.proofs.numbers.le16.Kinds as le16_kinds
use Rattle.text.proofs.numbers.le16.Reads as le16_reads
use Rattle.text.proofs.numbers.le32.Kinds as le32_kinds
use Rattle.text.proofs.numbers.le32.Reads as le32_reads

pub is_in_determined : Determined is_in_kinds.ps is_in_kinds.r is_in_reads.Post
is_in_determined κs a x y s t = same_both

pub all_of_determined : Determined all_of_kinds.ps all_of_kinds.r all_of_reads.Post
all_of_determined κs a x y s t = same_both

pub all_within_determined : Determined all_within_kinds.ps all_within_kinds.r all_within_reads.Post
all_within_determined κs a x y s t = same_both

pub run_of_determined : Determined run_of_kinds.ps run_of_kinds.r run_of_reads.Post
run_of_determined κs a x y s t = same_both

pub byte_at_determined : Determined byte_at_kinds.ps byte_at_kinds.r byte_at_reads.Post
byte_at_determined κs a x y s t = same_both

pub rest_determined : Seen rest_kinds.ps rest_kinds.r (λ κs x. x.now) rest_reads.Post
rest_determined κs a x y s t = same_both

pub head_determined : Seen head_kinds.ps head_kinds.r (λ κs x. x.now) head_reads.Post
head_determined κs a x y s t = same_both

pub part_determined : Seen part_kinds.ps part_kinds.r (λ κs x. x.now) part_reads.Post
part_determined κs a x y s t = same_both

pub starts_with_determined : Determined starts_with_kinds.ps starts_with_kinds.r starts_with_reads.Post
starts_with_determined κs a x y s t = same_both

pub same_determined : Determined same_kinds.ps same_kinds.r same_reads.Post
same_determined κs a x y s t = same_both

pub one_of_determined : Determined one_of_kinds.ps one_of_kinds.r one_of_reads.Post
one_of_determined κs a x y s t = same_both

pub shaped_determined : Determined shaped_kinds.ps shaped_kinds.r shaped_reads.Post
shaped_determined κs a x y s t = same_both

pub word_determined : Determined word_kinds.ps word_kinds.r word_reads.Post
word_determined κs a x y s t = same_both

pub begins_with_determined : Determined begins_with_kinds.ps begins_with_kinds.r begins_with_reads.Post
begins_with_determined κs a x y s t = same_both

pub next_row_determined : Determined next_row_kinds.ps next_row_kinds.r next_row_reads.Post
next_row_determined κs a x y s t = same_both

pub digit_of_determined : Determined digit_of_kinds.ps digit_of_kinds.r digit_of_reads.Post
digit_of_determined κs a x y s t = same_both

pub number_in_determined : Determined number_in_kinds.ps number_in_kinds.r number_in_reads.Post
number_in_determined κs a x y s t = same_both

pub joined_number_determined : Determined joined_number_kinds.ps joined_number_kinds.r joined_number_reads.Post
joined_number_determined κs a x y s t = same_both

pub two_digits_determined : Determined two_digits_kinds.ps two_digits_kinds.r two_digits_reads.Post
two_digits_determined κs a x y s t = same_both

pub four_digits_determined : Determined four_digits_kinds.ps four_digits_kinds.r four_digits_reads.Post
four_digits_determined κs a x y s t = same_both

pub eight_digits_determined : Determined eight_digits_kinds.ps eight_digits_kinds.r eight_digits_reads.Post
eight_digits_determined κs a x y s t = same_both

pub le16_determined : Determined le16_kinds.ps le16_kinds.r le16_reads.Post
le16_determined κs a x y s t = same_both

pub le32_determined : Determined le32_kinds.ps le32_kinds.r le32_reads.Post
le32_determined κs a x y s t = same_both
