-- Small values and instances in JSON, and their texts, which were written by hand.
use Rattle.std.specs.Prelude.{◌≡◌, [], ◌∷◌, codes, Some, None}
use Rattle.serde_json.specs.Written.{compact_text}
use Rattle.sm_instance.specs.declared.inputs.Input.TheVariants.{Two}
use Rattle.sm_instance_lines.specs.Witnesses.{marriage, ordered}
use Rattle.sm_json.specs.JsonText.{text_in}
use Rattle.sm_json.specs.Making.{json_of}
use Rattle.sm_json.specs.Wrapping.{json_of_lines}

-- the text that the JSON of a marriage of two and two stands for
abbrev pub MarriageRead : Type 0
MarriageRead =
    text_in (codes "{\"kind\":\"marriage\",\"proposers\":[{\"list\":[\"a\",\"b\"],\"name\":\"m1\"},{\"list\":[\"b\",\"a\"],\"name\":\"m2\"}],\"reviewers\":[{\"list\":[\"m2\",\"m1\"],\"name\":\"a\"},{\"list\":[\"m1\",\"m2\"],\"name\":\"b\"}]}")
    ≡ Some (codes "stable 1 marriage\np m1: a b\np m2: b a\nr a: m2 m1\nr b: m1 m2\nend\n")

-- that of the JSON of hospitals, with a blank, a member that stands twice, two weights and an order
abbrev pub HospitalsRead : Type 0
HospitalsRead =
    text_in (codes "{\"order\": [],\"kind\":\"hospitals\",\"proposers\":[{\"name\":\"a\",\"list\":[\"h\"]}],\"reviewers\":[{\"name\":\"h\",\"capacity\":12,\"list\":[]}],\"weights\":[[\"a\",\"h\",-3,4]],\"order\":[\"a\"]}")
    ≡ Some (codes "stable 2 hospitals\np a: h\nr h [12]:\nweight a h -3 4\norder a\nend\n")

-- that of the JSON of roommates
abbrev pub RoommatesRead : Type 0
RoommatesRead = text_in (codes "{\"kind\":\"roommates\",\"persons\":[{\"name\":\"x\",\"list\":[]}]}") ≡ Some (codes "stable 1 roommates\np x:\nend\n")

-- none for an object without members, for one with a member that has no place there, and for a weight with a point
abbrev pub NothingRead : Type 0
NothingRead =
    (text_in (codes "{}") ≡ None)
    × (text_in (codes "{\"kind\":\"roommates\",\"persons\":[],\"order\":[]}") ≡ None)
    × (text_in (codes "{\"kind\":\"marriage\",\"proposers\":[],\"reviewers\":[],\"weights\":[[\"a\",\"b\",1.0]]}") ≡ None)

-- the JSON of a marriage with weights and conditions
abbrev pub MarriageWritten : Type 0
MarriageWritten =
    compact_text (json_of (Two marriage))
    ≡ codes "{\"forbidden\":[[\"b-2\",\"y\"]],\"forced\":[[\"a\",\"y\"],[\"a\",\"y\"]],\"kind\":\"marriage\",\"proposers\":[{\"list\":[\"y\",\"a\"],\"name\":\"a\"},{\"list\":[\"a\"],\"name\":\"b-2\"}],\"reviewers\":[{\"list\":[\"a\",\"b-2\"],\"name\":\"a\"},{\"list\":[],\"name\":\"y\"}],\"weights\":[[\"b-2\",\"a\",-12],[\"a\",\"y\",0]]}"

-- that of the same with a second weight and an order
abbrev pub OrderedWritten : Type 0
OrderedWritten =
    compact_text (json_of (Two ordered))
    ≡ codes "{\"forbidden\":[[\"b-2\",\"y\"]],\"forced\":[[\"a\",\"y\"],[\"a\",\"y\"]],\"kind\":\"marriage\",\"order\":[\"b-2\",\"a\"],\"proposers\":[{\"list\":[\"y\",\"a\"],\"name\":\"a\"},{\"list\":[\"a\"],\"name\":\"b-2\"}],\"reviewers\":[{\"list\":[\"a\",\"b-2\"],\"name\":\"a\"},{\"list\":[],\"name\":\"y\"}],\"weights\":[[\"b-2\",\"a\",-12,-5],[\"a\",\"y\",0]]}"

-- the JSON of three lines
abbrev pub LinesWritten : Type 0
LinesWritten = json_of_lines (codes "answer solve side=proposers" ∷ codes "pair m1 a" ∷ codes "end" ∷ []) ≡ codes "[\"answer solve side=proposers\",\"pair m1 a\",\"end\"]\n"
