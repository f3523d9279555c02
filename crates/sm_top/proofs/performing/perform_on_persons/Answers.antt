use Rattle.std.proofs.Common.{◌≡◌, ◌∙◌, ap, refl, sym, subst, None}
use Rattle.sm_serve.proofs.WritingLemmas.{leaves_for}
use Rattle.sm_instance.specs.declared.inputs.Input.{Input}
use Rattle.sm_instance.specs.declared.inputs.Input.TheVariants.{Room}
use Rattle.sm_reader.specs.InstanceText.{read_of}
use Rattle.sm_words.specs.Jobs.{JobData, job_of, Solve, Rest, Export}
use Rattle.sm_answer_vectors.specs.VectorAnswer.{cursor_in}
use Rattle.sm_answer_roommates.specs.RoomListAnswer.{IsRoomListAnswer}
use Rattle.sm_top.specs.Outcome.{IsSolved, IsAnyList, IsBadCursor, IsRefused, by_job}
use Rattle.sm_answer_roommates.specs.RestAnswer.{IsRest}
use Rattle.sm_serve.specs.declared.status.Status.TheVariants.{Done}
use Rattle.sm_top.proofs.RunLemmas.{wrote_room, wrote_as}
use Rattle.sm_serve.proofs.RunLemmas.{err_stops_for}
use Rattle.sm_top.proofs.KindLemmas.{room_accepted, answer_over, wrote_export}
use Rattle.sm_top.proofs.performing.perform_on_persons.Goals as goal

pub returns-in_ok-solve_roommates-in-Solve-None-clause-leaves : goal.returns-in_ok-solve_roommates-in-Solve-None-clause-leaves
returns-in_ok-solve_roommates-in-Solve-None-clause-leaves g c = λ text tallies accepted.
    let none = rw c.in-Solve-None.is at c.in-Solve-None.field-0-is in
    let job : job_of c.args.job.now ≡ Solve None = ap job_of c.in-Solve-None.is ∙ ap Solve none in
    let read = read_of c.args.reading.now.read.now in
    let judged = rw job at accepted in
    let ok = room_accepted (Solve None) text read c.args.persons.now c.requires.room judged refl in
    rw job (answer_over (Solve None) text read (IsSolved None) _ _ _ _ _ ok c.in_ok-solve_roommates-in-Solve-None.ensures)

pub returns-in_ok-show_rest-in-Rest-clause-leaves : goal.returns-in_ok-show_rest-in-Rest-clause-leaves
returns-in_ok-show_rest-in-Rest-clause-leaves g c = λ text tallies accepted.
    let read = read_of c.args.reading.now.read.now in
    let judged = rw c.in-Rest.is at accepted in
    let ok = room_accepted Rest text read c.args.persons.now c.requires.room judged refl in
    rw c.in-Rest.is (wrote_room Rest text read c.args.persons.now IsRest Done _ _ _ _ _ ok c.requires.room c.in_ok-show_rest-in-Rest.ensures)

pub returns-in-List-clause-leaves : goal.returns-in-List-clause-leaves
returns-in-List-clause-leaves g c = λ text tallies accepted.
    let read = read_of c.args.reading.now.read.now in
    let persons = c.args.persons.now in
    let after = cursor_in c.in-List.after in
    let job = JobData.List after c.in-List.limit in
    let judged = rw c.in-List.is at accepted in
    let ok = room_accepted job text read persons c.requires.room judged refl in
    rw c.in-List.is (leaves_for c.list_persons.result _ _ (λ status w. wrote_as job text read (IsRoomListAnswer after c.in-List.limit persons) (IsAnyList after c.in-List.limit) Done _ _ _ _ status ok
    (λ answer h. subst (λ (input : Input). IsAnyList after c.in-List.limit input answer) (sym c.requires.room) h) w) c.list_persons.ensures.leaves)

pub returns-in-List-clause-stop : goal.returns-in-List-clause-stop
returns-in-List-clause-stop g c = λ text accepted.
    let read = read_of c.args.reading.now.read.now in
    let persons = c.args.persons.now in
    let after = cursor_in c.in-List.after in
    let job = JobData.List after c.in-List.limit in
    let judged = rw c.in-List.is at accepted in
    let ok = room_accepted job text read persons c.requires.room judged refl in
    rw c.in-List.is (err_stops_for (λ word. ⊥) (λ word. ⊥) (IsBadCursor after (Room persons)) (IsRefused job text) ⊥ ⊥ c.list_persons.result (λ word h. h)
    (λ refusal bad. by_job read ok (subst (λ (input : Input). IsBadCursor after input refusal) (sym c.requires.room) bad)) (λ h. h) c.list_persons.ensures.stop)

pub returns-in_ok-export-in-Export-clause-leaves : goal.returns-in_ok-export-in-Export-clause-leaves
returns-in_ok-export-in-Export-clause-leaves g c = λ text tallies accepted.
    let read = read_of c.args.reading.now.read.now in
    let judged = rw c.in-Export.is at accepted in
    let formed = rw c.in-Export.is at c.requires.form in
    let ok = room_accepted Export text read c.args.persons.now c.requires.room judged refl in
    rw c.in-Export.is (wrote_export tallies text read c.args.reading.now.form _ _ _ _ _ formed ok c.in_ok-export-in-Export.ensures)
