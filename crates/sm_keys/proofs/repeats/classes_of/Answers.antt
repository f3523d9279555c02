use Rattle.std.proofs.Common.{◌≡◌, ◌++◌, ◌∷◌, [], ◌∙◌, ap, sym, map, take, mod-lt, arith, ℕ, List}
use Rattle.std.specs.Borrow.{Bor}
use Rattle.std.proofs.lemmas.List.{map_push, take_all, length-map}
use Rattle.std.specs.Hash.DefaultHasher.{write, finish}
use Rattle.sm_text.specs.Slices.{texts_of}
use Rattle.sm_keys.specs.Repeats.{class_in}
use Rattle.sm_keys.proofs.RepeatLemmas.{slice_at, text_more}
use Rattle.sm_keys.proofs.repeats.classes_of.Goals as goal

pub names-preserved : goal.names-preserved
names-preserved c =
    let names = c.args.names.now in
    let class_of = class_in c.args.start c.args.count in
    let i = c.names.place in
    record {
      each = c.push_reserved.ensures.items
          ∙ ap (λ xs. xs ++ c.class_of.result ∷ []) c.names.invariant.each
          ∙ ap (λ n. map class_of (take i (texts_of names)) ++ n ∷ []) c.class_of.ensures
          ∙ sym (ap (map class_of) (text_more names i (omega (arith, c.names-test.true))) ∙ map_push class_of (take i (texts_of names)) (slice_at names i).now);
      place = omega (arith, c.push_reserved.ensures.len, c.names.invariant.place);
      room = omega (arith, c.push_reserved.ensures.capacity, c.names.invariant.room);
    }

pub returns : goal.returns
returns c =
    let texts = texts_of c.args.names.now in
    let class_of = class_in c.args.start c.args.count in
    let all : take c.names.place texts ≡ texts = take_all c.names.place texts (omega (arith, c.names-test.false, length-map c.args.names.now (λ (x : Bor (List ℕ)). x.now))) in
    record {
      class_of = class_of;
      each = c.names.invariant.each ∙ ap (map class_of) all;
      few = λ name. mod-lt (finish (write c.args.start name)) c.requires.some;
    }
