-- How many of each kind the code has made.
use Rattle.std.specs.Prelude.{length}
use Rattle.model_machine.specs.Sound.{Ids}
use Rattle.aio_body.specs.declared.run_state.RunState.{RunState}

abbrev pub ids_in : {X : Type 0} → RunState X → Ids
ids_in body =
    record {
      tasks = length body.slots.items;
      futures = length body.futures.items;
      timeouts = length body.timeouts;
      groups = length body.groups;
      servers = length body.transports.streams.servers;
      connections = length body.transports.streams.connections;
      children = length body.transports.children.children;
    }
