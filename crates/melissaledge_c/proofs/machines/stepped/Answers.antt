use Rattle.melissaledge_c.proofs.machines.stepped.Goals as goal

pub returns : goal.returns
returns c = record {
  reply = c.step-reply.result;
  step = record {
    stands = c.step-reply.ensures.stands;
    due_is = c.step-reply.ensures.due;
    refused = c.step-reply.ensures.refused;
    promises = c.step-reply.ensures.promises;
  };
  told_is = c.of.ensures;
}
