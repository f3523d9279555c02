-- The texts of specs/Witnesses.antt, computed.
use Rattle.std.proofs.Common.{refl}
use Rattle.sm_text.specs.Name as name
use Rattle.sm_text.specs.Tokens as token
use Rattle.sm_forms.specs.Forms as form
use Rattle.sm_keys.specs.Tokens.{is_bad}
use Rattle.sm_reader.specs.Judging as judge
use Rattle.sm_reader.specs.InstanceText as text
use Rattle.sm_reader.specs.Witnesses.{HeadersRefused, EachRefused, FirstRefused, HospitalsRefused, EarlierRefused, AddedRefused, SecondRefused, LongRefused, AgentsCounted, EntriesCounted, HospitalsRead, RoommatesRead, ReturnsRead, SecondRead}

-- one lemma, so that what is unfolded is named once
pub texts_mean : HeadersRefused × EachRefused × FirstRefused × HospitalsRefused × EarlierRefused × HospitalsRead × RoommatesRead × ReturnsRead × AddedRefused × SecondRefused × SecondRead
unfolding is_bad form.list_form form.capacity_form form.weight_form form.pair_form form.reviewer_form form.two_sided_form form.form_behind
    form.master_form form.use_form form.capacity_use_form form.reviewer_use_form form.order_form form.second_form form.two_sided_added_form form.added_form form.form_under
    form.is_end form.header_of judge.fault_of judge.said_with judge.verdict_on judge.heading_of text.instance_text name.begins_name name.is_name_byte
    token.is_blank token.is_mark
texts_mean = (refl, refl, refl, refl, refl, refl, refl, refl, refl, refl, refl)

-- a text of a byte too many is refused
pub long_refused : LongRefused
unfolding text.instance_text
long_refused bytes long = rw long refl

-- agents are counted as said
pub agents_counted : AgentsCounted
unfolding judge.fault_of name.begins_name name.is_name_byte
agents_counted = (refl, refl)

-- entries are counted as said
pub entries_counted : EntriesCounted
unfolding judge.fault_of name.begins_name name.is_name_byte
entries_counted = ((λ entries long. rw long refl), (λ entries long. rw long refl))
