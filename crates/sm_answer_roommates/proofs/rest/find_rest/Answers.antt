use Rattle.sm_answer_roommates.proofs.rest.find_rest.Goals as goal

pub returns : goal.returns
returns c =
    let p = c.in_ok-partition.ensures in
    rw (← c.in_ok-market.ensures) (record {
      next = c.in_ok-partition.partition.next;
      partition = p.partition;
      left_out = c.in_ok-out.ensures;
      rest = rw c.in_ok-mates.ensures (record { matching = p.rest.0; alone = p.pairs.alternately.left_out; unblocked = p.rest.1 });
    })
