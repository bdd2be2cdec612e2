-- Each public function's contract determines its answer.
use Rattle.text.proofs.Determined.{Seen, Determined, same_both}
use Rattle.ident.proofs.characters.value_of.Kinds as value_of_kinds
use Rattle.ident.proofs.characters.value_of.Reads as value_of_reads
use Rattle.ident.proofs.codes.lei_shaped.Kinds as lei_shaped_kinds
use Rattle.ident.proofs.codes.lei_shaped.Reads as lei_shaped_reads
use Rattle.ident.proofs.codes.mic_shaped.Kinds as mic_shaped_kinds
use Rattle.ident.proofs.codes.mic_shaped.Reads as mic_shaped_reads
use Rattle.ident.proofs.codes.lei_remainder.Kinds as lei_remainder_kinds
use Rattle.ident.proofs.codes.lei_remainder.Reads as lei_remainder_reads
use Rattle.ident.proofs.codes.lei_right.Kinds as lei_right_kinds
use Rattle.ident.proofs.codes.lei_right.Reads as lei_right_reads
use Rattle.ident.proofs.isins.isin_shaped.Kinds as isin_shaped_kinds
use Rattle.ident.proofs.isins.isin_shaped.Reads as isin_shaped_reads
use Rattle.ident.proofs.isins.isin_remainder.Kinds as isin_remainder_kinds
use Rattle.ident.proofs.isins.isin_remainder.Reads as isin_remainder_reads
use Rattle.ident.proofs.isins.isin_right.Kinds as isin_right_kinds
use Rattle.ident.proofs.isins.isin_right.Reads as isin_right_reads
use Rattle.ident.proofs.persons.concat_shaped.Kinds as concat_shaped_kinds
use Rattle.ident.proofs.persons.concat_shaped.Reads as concat_shaped_reads
use Rattle.ident.proofs.persons.number_shaped.Kinds as number_shaped_kinds
use Rattle.ident.proofs.persons.number_shaped.Reads as number_shaped_reads
use Rattle.ident.proofs.persons.country_of.Kinds as country_of_kinds
use Rattle.ident.proofs.persons.country_of.Reads as country_of_reads
use Rattle.ident.proofs.persons.concat_day.Kinds as concat_day_kinds
use Rattle.ident.proofs.persons.concat_day.Reads as concat_day_reads
use Rattle.ident.proofs.parties.allowed7.Kinds as allowed7_kinds
use Rattle.ident.proofs.parties.allowed7.Reads as allowed7_reads
use Rattle.ident.proofs.parties.allowed12.Kinds as allowed12_kinds
use Rattle.ident.proofs.parties.allowed12.Reads as allowed12_reads
use Rattle.ident.proofs.parties.allowed57.Kinds as allowed57_kinds
use Rattle.ident.proofs.parties.allowed57.Reads as allowed57_reads
use Rattle.ident.proofs.parties.allowed59.Kinds as allowed59_kinds
use Rattle.ident.proofs.parties.allowed59.Reads as allowed59_reads
use Rattle.ident.proofs.parties.part_of.Kinds as part_of_kinds
use Rattle.ident.proofs.parties.part_of.Reads as part_of_reads
use Rattle.ident.proofs.parties.is_person.Kinds as is_person_kinds
use Rattle.ident.proofs.parties.is_person.Reads as is_person_reads
use Rattle.ident.proofs.parties.person_shaped.Kinds as person_shaped_kinds
use Rattle.ident.proofs.parties.person_shaped.Reads as person_shaped_reads
use Rattle.ident.proofs.parties.parse_party.Kinds as parse_party_kinds
use Rattle.ident.proofs.parties.parse_party.Reads as parse_party_reads
use Rattle.ident.proofs.parties.is_lei.Kinds as is_lei_kinds
use Rattle.ident.proofs.parties.is_lei.Reads as is_lei_reads
use Rattle.ident.proofs.parties.is_mic.Kinds as is_mic_kinds
use Rattle.ident.proofs.parties.is_mic.Reads as is_mic_reads
use Rattle.ident.proofs.parties.is_concat.Kinds as is_concat_kinds
use Rattle.ident.proofs.parties.is_concat.Reads as is_concat_reads
use Rattle.ident.proofs.parties.is_nidn.Kinds as is_nidn_kinds
use Rattle.ident.proofs.parties.is_nidn.Reads as is_nidn_reads
use Rattle.ident.proofs.parties.is_malformed.Kinds as is_malformed_kinds
use Rattle.ident.proofs.parties.is_malformed.Reads as is_malformed_reads

pub value_of_determined : Determined value_of_kinds.ps value_of_kinds.r value_of_reads.Post
value_of_determined κs a x y s t = same_both

pub lei_shaped_determined : Determined lei_shaped_kinds.ps lei_shaped_kinds.r lei_shaped_reads.Post
lei_shaped_determined κs a x y s t = same_both

pub mic_shaped_determined : Determined mic_shaped_kinds.ps mic_shaped_kinds.r mic_shaped_reads.Post
mic_shaped_determined κs a x y s t = same_both

pub lei_remainder_determined : Determined lei_remainder_kinds.ps lei_remainder_kinds.r lei_remainder_reads.Post
lei_remainder_determined κs a x y s t = same_both

pub lei_right_determined : Determined lei_right_kinds.ps lei_right_kinds.r lei_right_reads.Post
lei_right_determined κs a x y s t = same_both

pub isin_shaped_determined : Determined isin_shaped_kinds.ps isin_shaped_kinds.r isin_shaped_reads.Post
isin_shaped_determined κs a x y s t = same_both

pub isin_remainder_determined : Determined isin_remainder_kinds.ps isin_remainder_kinds.r isin_remainder_reads.Post
isin_remainder_determined κs a x y s t = same_both

pub isin_right_determined : Determined isin_right_kinds.ps isin_right_kinds.r isin_right_reads.Post
isin_right_determined κs a x y s t = same_both

pub concat_shaped_determined : Determined concat_shaped_kinds.ps concat_shaped_kinds.r concat_shaped_reads.Post
concat_shaped_determined κs a x y s t = same_both

pub number_shaped_determined : Determined number_shaped_kinds.ps number_shaped_kinds.r number_shaped_reads.Post
number_shaped_determined κs a x y s t = same_both

pub country_of_determined : Seen country_of_kinds.ps country_of_kinds.r (λ κs x. x.now) country_of_reads.Post
country_of_determined κs a x y s t = same_both

pub concat_day_determined : Determined concat_day_kinds.ps concat_day_kinds.r concat_day_reads.Post
concat_day_determined κs a x y s t = same_both

pub allowed7_determined : Determined allowed7_kinds.ps allowed7_kinds.r allowed7_reads.Post
allowed7_determined κs a x y s t = same_both

pub allowed12_determined : Determined allowed12_kinds.ps allowed12_kinds.r allowed12_reads.Post
allowed12_determined κs a x y s t = same_both

pub allowed57_determined : Determined allowed57_kinds.ps allowed57_kinds.r allowed57_reads.Post
allowed57_determined κs a x y s t = same_both

pub allowed59_determined : Determined allowed59_kinds.ps allowed59_kinds.r allowed59_reads.Post
allowed59_determined κs a x y s t = same_both

pub part_of_determined : Seen part_of_kinds.ps part_of_kinds.r (λ κs x. x.now) part_of_reads.Post
part_of_determined κs a x y s t = same_both

pub is_person_determined : Determined is_person_kinds.ps is_person_kinds.r is_person_reads.Post
is_person_determined κs a x y s t = same_both

pub person_shaped_determined : Determined person_shaped_kinds.ps person_shaped_kinds.r person_shaped_reads.Post
person_shaped_determined κs a x y s t = same_both

pub parse_party_determined : Determined parse_party_kinds.ps parse_party_kinds.r parse_party_reads.Post
parse_party_determined κs a x y s t = same_both

pub is_lei_determined : Determined is_lei_kinds.ps is_lei_kinds.r is_lei_reads.Post
is_lei_determined κs a x y s t = same_both

pub is_mic_determined : Determined is_mic_kinds.ps is_mic_kinds.r is_mic_reads.Post
is_mic_determined κs a x y s t = same_both

pub is_concat_determined : Determined is_concat_kinds.ps is_concat_kinds.r is_concat_reads.Post
is_concat_determined κs a x y s t = same_both

pub is_nidn_determined : Determined is_nidn_kinds.ps is_nidn_kinds.r is_nidn_reads.Post
is_nidn_determined κs a x y s t = same_both

pub is_malformed_determined : Determined is_malformed_kinds.ps is_malformed_kinds.r is_malformed_reads.Post
is_malformed_determined κs a x y s t = same_both
