-- The scope that the check of a body is given.
use Rattle.wg_code.specs.Valid.{Scope}
use Rattle.wg_code.specs.declared.scope.Scope.{Scope as Given}

abbrev pub scope_of : Given → Scope
scope_of k = record {
  tables = record {
    registers = k.registers;
    shared = k.shared;
    buffers = k.buffers;
    outputs = k.outputs;
    handles = k.handles.now;
    functions = k.functions.now;
  };
  node = k.node;
  depth = k.depth;
}
