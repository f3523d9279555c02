-- The texts of specs/Witnesses.antt, computed.
use Rattle.std.proofs.Common.{refl}
use Rattle.std.specs.Fmt as fmt
use Rattle.sm_report.specs.Meanings.{left_in, right_in, one_of, two_of, three_of, headed_of, items_in, bare_in, head_in}
use Rattle.sm_report.specs.Witnesses.{MarriageTexts, HospitalTexts, RoomTexts, NumberTexts, HeadTexts, BadTexts, BadSeats, BadRooms}

-- the lines of the marriage have their texts, and are read from them
pub marriage_texts : MarriageTexts
unfolding fmt.digits left_in right_in one_of two_of three_of headed_of items_in bare_in head_in
marriage_texts = (refl, refl)

-- so have those of the hospitals
pub hospital_texts : HospitalTexts
unfolding fmt.digits left_in right_in one_of two_of three_of headed_of items_in bare_in head_in
hospital_texts = (refl, refl)

-- those of the roommates
pub room_texts : RoomTexts
unfolding left_in right_in one_of two_of three_of headed_of items_in bare_in head_in
room_texts = (refl, refl)

-- those of words and numbers
pub number_texts : NumberTexts
unfolding fmt.digits left_in right_in one_of two_of three_of headed_of items_in bare_in head_in
number_texts = (refl, refl)

-- and the first lines
pub head_texts : HeadTexts
unfolding fmt.digits left_in right_in one_of two_of three_of headed_of items_in bare_in head_in
head_texts = (refl, refl)

-- the texts of no line are refused
pub bad_texts : BadTexts
unfolding left_in right_in one_of two_of three_of headed_of items_in bare_in head_in
bad_texts = refl

-- so are those with bad seats
pub bad_seats : BadSeats
unfolding left_in right_in one_of two_of three_of headed_of items_in bare_in head_in
bad_seats = refl

-- and those for roommates
pub bad_rooms : BadRooms
unfolding left_in right_in one_of two_of three_of headed_of items_in bare_in head_in
bad_rooms = refl
