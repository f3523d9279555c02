use Rattle.std.proofs.Common.{refl}
use Rattle.sm_text.specs.Plain.{is_plain_byte}
use Rattle.sm_test_texts.proofs.json.lines_as_items.Goals as goal

pub wrap-requires : goal.wrap-requires
unfolding is_plain_byte
wrap-requires c = λ _. refl

pub wrap-requires-2 : goal.wrap-requires-2
unfolding is_plain_byte
wrap-requires-2 c = λ _. refl
