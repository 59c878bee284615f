mod Growth
mod Leaf
mod NotBuffers
mod NotGiven
mod NotRecords
mod NotRegisters
mod NotRequests
mod NotShared
